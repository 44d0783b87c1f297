-- Bytes moved within a list.
pub mod Moves
pub mod Stages
