-- A turn of the walk over the items, how the answer is made of its stages, and that the check's contract leaves one outcome.
pub mod Texts
pub mod Unique
