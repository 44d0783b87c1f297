-- A descriptor loop: what its bytes are, and how bytes are read; Stages is for the count's own functions alone.
pub mod Syntax
pub mod Reading
pub mod Stages
