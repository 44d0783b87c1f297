-- What a walk over a head answers, and that each public contract leaves one outcome.
pub mod HeadLaws
pub mod Listed
pub mod Unique
