-- What an edit answers tells what the index becomes, and that each public contract leaves one outcome.
pub mod Edits
pub mod Unique
