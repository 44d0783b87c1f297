-- Laws of moving, and what the code's steps do.
pub mod Exact
pub mod Steps
pub mod Unique
