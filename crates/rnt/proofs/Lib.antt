-- The laws of the resolution notification section, and that each public contract leaves one outcome.
pub mod Names
pub mod Providers
pub mod Head
pub mod Accepted
pub mod Numbers
pub mod Rows
pub mod Listed
pub mod Unique
