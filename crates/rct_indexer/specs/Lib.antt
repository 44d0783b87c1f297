-- The code's own stages of building an index.
pub mod Stages
