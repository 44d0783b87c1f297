-- The laws of a length field and of blocks, and that each public contract leaves one outcome.
pub mod Blocks
pub mod Listed
pub mod Written
pub mod Unique
