-- A verdict as numbers alone.
pub mod Refusals
