-- The laws of an entry by its place, and that each public contract leaves one outcome.
pub mod Ends
pub mod Entries
pub mod Listed
pub mod Unique
