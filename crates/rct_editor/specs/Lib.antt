-- The code's own stages of appending and replacing.
pub mod Splicing
