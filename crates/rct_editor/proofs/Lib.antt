-- Laws of making, appending and replacing, over the calls' own definitions.
pub mod Outcomes
pub mod Sizes
pub mod Stores
pub mod Between
pub mod Unique
