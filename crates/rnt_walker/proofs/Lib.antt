-- What the stages of the walk answer, and that the public contract leaves one outcome.
pub mod Walks
pub mod Nothing
pub mod Listed
pub mod Unique
