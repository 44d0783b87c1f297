-- What a field's check says, that the list is in the order of its ranks, and that each public contract leaves one outcome.
pub mod Checks
pub mod Ranks
pub mod Unique
