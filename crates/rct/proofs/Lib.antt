-- The laws of the related content section, and that each public contract leaves one outcome.
pub mod Head
pub mod Links
pub mod Payload
pub mod Accepted
pub mod Checked
pub mod Listed
pub mod Rows
pub mod Unique
