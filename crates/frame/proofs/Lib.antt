-- The laws of the frame, and that each public contract leaves one outcome.
pub mod Opening
pub mod Endings
pub mod Listed
pub mod Readings
pub mod Indicator
pub mod Limit
pub mod Tables
pub mod Unique
