-- What the readings of a whole section answer.
pub mod Sections
