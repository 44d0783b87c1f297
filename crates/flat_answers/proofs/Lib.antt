-- What each answer tells, and that each contract leaves one outcome.
pub mod Told
pub mod Outcomes
pub mod Unique
