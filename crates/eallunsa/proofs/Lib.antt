-- What number 0 says of each call, that of a record handed in only the link counts that it stands for, and that each contract leaves one outcome.
pub mod Refused
pub mod Stands
pub mod Unique
