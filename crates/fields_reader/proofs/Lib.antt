-- The laws of the stages, and that the public contract leaves one outcome.
pub mod Stages
pub mod Fields
pub mod Unique
