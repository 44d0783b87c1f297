-- What private stages of the code answer.
pub mod Stages
