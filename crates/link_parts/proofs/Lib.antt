-- Each public contract leaves one outcome.
pub mod Unique
