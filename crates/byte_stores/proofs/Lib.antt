-- The laws of stores, and that the contract leaves one outcome.
pub mod Writing
pub mod Unique
