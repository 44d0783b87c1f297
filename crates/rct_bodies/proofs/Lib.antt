-- The laws of the body of a link by number, and that the public contract leaves one outcome.
pub mod Bodies
pub mod Listed
pub mod Unique
