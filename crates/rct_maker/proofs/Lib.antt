-- The laws of making's stores and outcome, and that the contract leaves one outcome.
pub mod Made
pub mod Unique
