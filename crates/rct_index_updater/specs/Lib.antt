-- What an index becomes by what an edit answered, and what a stage is handed.
pub mod Bringing
pub mod Stages
