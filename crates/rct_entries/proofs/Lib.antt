-- What an entry by its place answers, and that the public contract leaves one outcome.
pub mod EntryLaws
pub mod Listed
pub mod Unique
