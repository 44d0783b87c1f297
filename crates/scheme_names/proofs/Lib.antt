-- What schemes by number are, both ways, and that each public contract leaves one outcome.
pub mod Schemes
pub mod Unique
