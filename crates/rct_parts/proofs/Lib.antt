-- That the parts lie in the section and are what the syntax has there, and that each public contract leaves one outcome.
pub mod Inside
pub mod Handed
pub mod Unique
