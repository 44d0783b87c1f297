-- That each public contract leaves one outcome.
pub mod Unique
