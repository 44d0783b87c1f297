-- The laws of building an index step by step, and that the public contract leaves one outcome.
pub mod Walks
pub mod Sections
pub mod Unique
