-- The laws of sets of numbers, and that each public contract leaves one outcome.
pub mod Bits
pub mod Rows
pub mod Sets
pub mod Counts
pub mod Carried
pub mod Unique
