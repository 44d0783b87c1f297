-- The laws of the descriptor loop, and that the public contract leaves one outcome.
pub mod Loops
pub mod Rebuild
pub mod Cuts
pub mod Answers
pub mod Walks
pub mod Rows
pub mod Unique
