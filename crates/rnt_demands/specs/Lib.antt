-- The section that the answers of the calls tell.
pub mod Told
