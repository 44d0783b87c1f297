-- What an edit stores in a section besides the link.
pub mod Stores
