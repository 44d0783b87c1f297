-- Writing into a list at a place.
pub mod Stores
