-- That the public contract leaves one outcome.
pub mod Unique
