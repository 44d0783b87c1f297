-- Which parts of an authority are handed back.
pub mod Parts
