-- What the demands say of the calls: what is read back, and which calls make a section again.
pub mod Back
pub mod Again
