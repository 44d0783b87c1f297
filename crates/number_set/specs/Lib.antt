-- Sets of the numbers 0 to 255.
pub mod Members
pub mod Stages
