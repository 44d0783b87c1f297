-- How the members are counted, and that the public contract leaves one outcome.
pub mod Ones
pub mod Unique
