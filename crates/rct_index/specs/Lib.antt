-- The index beside a section: what it is, when it can be built, and what an edit makes of it.
pub mod Index
pub mod Building
pub mod Editing
