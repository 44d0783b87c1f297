-- What types by number are, both ways, and that each public contract leaves one outcome.
pub mod Among
pub mod Types
pub mod Unique
