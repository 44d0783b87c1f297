-- What an entry by its place answers.
pub mod Entries
