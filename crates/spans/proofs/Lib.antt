-- The laws of parts, and that the contract leaves one outcome.
pub mod SpanLaws
pub mod Unique
