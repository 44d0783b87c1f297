-- When the stores are made and when not, what they are byte by byte, what the code's steps store, and that each public contract leaves one outcome.
pub mod Exact
pub mod Bytes
pub mod Steps
pub mod Unique
