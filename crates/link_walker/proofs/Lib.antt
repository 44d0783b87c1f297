-- The laws of those answers, and that each public contract leaves one outcome.
pub mod Places
pub mod Stages
pub mod Unique
