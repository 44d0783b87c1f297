-- The laws of providers and authorities by number, and that each public contract leaves one outcome.
pub mod Answers
pub mod Images
pub mod Rows
pub mod Unique
