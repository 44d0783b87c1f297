-- The laws of the item reader, and that each contract leaves one outcome.
pub mod Laws
pub mod Written
pub mod Listed
pub mod Unique
