-- Sections and headers as numbers alone.
pub mod Sections
