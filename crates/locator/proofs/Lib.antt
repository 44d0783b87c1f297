-- The laws of the locator, and that each public contract leaves one outcome.
pub mod Answers
pub mod Sizes
pub mod Spelling
pub mod Back
pub mod Rebuild
pub mod Exact
pub mod Made
pub mod Checked
pub mod Written
pub mod Rows
pub mod Listed
pub mod Unique
