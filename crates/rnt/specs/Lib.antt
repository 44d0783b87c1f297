-- The resolution notification section: what its bytes are, how bytes are read, and the records that calls answer.
pub mod Syntax
pub mod Reading
pub mod Records
