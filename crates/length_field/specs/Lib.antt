-- A 12-bit length with four bits beside it, and blocks of that many bytes.
pub mod Lengths
