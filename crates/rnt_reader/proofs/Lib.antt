-- The laws of a whole reading, and that each public contract leaves one outcome.
pub mod Images
pub mod Unique
