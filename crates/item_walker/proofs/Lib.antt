-- The laws of the walk, and that each public contract leaves one outcome.
pub mod Stages
pub mod Unique
