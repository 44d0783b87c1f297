-- What the stages of the writing leave.
pub mod Stages
