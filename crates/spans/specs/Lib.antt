-- A part of a slice.
pub mod Spans
