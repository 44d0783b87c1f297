-- What the stages of the check answer.
pub mod Stages
