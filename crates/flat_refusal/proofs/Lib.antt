-- What number 0 says, and that each contract leaves one outcome.
pub mod Numbers
pub mod Unique
