-- The laws of the reading of the whole, which numbers it answers, and that each public contract leaves one outcome.
pub mod Wholes
pub mod Listed
pub mod Unique
