-- How the stages of the writing follow one another, and that its contract leaves one outcome.
pub mod Stages
pub mod Unique
