-- The laws of a section's bytes 1 to 7, and that each public contract leaves one outcome.
pub mod HeaderLaws
pub mod Unique
