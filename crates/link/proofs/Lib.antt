-- The laws of links.
pub mod Items
pub mod Rebuild
pub mod Back
pub mod Laws
pub mod Turns
pub mod Answers
pub mod Filling
pub mod Listing
pub mod Bounds
pub mod Parts
pub mod Image
pub mod Unique
pub mod Nothing
pub mod Types
pub mod Ones
pub mod Listed
