-- Bytes 1 to 7 of a section of any table.
pub mod Syntax
pub mod Reading
pub mod Checks
