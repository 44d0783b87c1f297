-- Which numbers the two readings answer, and that each public contract leaves one outcome.
pub mod Listed
pub mod Unique
