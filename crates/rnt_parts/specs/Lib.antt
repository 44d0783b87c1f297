-- Which parts of a section are handed back.
pub mod Parts
