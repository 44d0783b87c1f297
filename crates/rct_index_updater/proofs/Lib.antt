-- The laws of bringing up an index step by step, and that each public contract leaves one outcome.
pub mod Steps
pub mod Tested
pub mod Bounds
pub mod Unique
