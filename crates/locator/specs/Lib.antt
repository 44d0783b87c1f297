-- The locator's syntax, what reading it gives, what is checked before one is written, and what writing gives.
pub mod Windows
pub mod Syntax
pub mod Reading
pub mod Checks
pub mod Writing
