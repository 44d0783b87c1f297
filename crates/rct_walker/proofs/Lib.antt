-- The laws of the walk, and that each public contract leaves one outcome.
pub mod Walks
pub mod Loops
pub mod Spans
pub mod Payloads
pub mod Listed
pub mod Unique
