-- The related content section: what its bytes are, and how bytes are read.
pub mod Syntax
pub mod Reading
