-- Demand 2, read from the calls' answers.
pub mod Demand
