-- The laws of the parts handed back, and that each public contract leaves one outcome.
pub mod Inside
pub mod Unique
