-- The laws of links and items by number, and that each public contract leaves one outcome.
pub mod Numbers
pub mod Images
pub mod Rows
pub mod Listed
pub mod Order
pub mod Unique
