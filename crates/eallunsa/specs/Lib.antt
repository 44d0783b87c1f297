-- What the exports say of themselves.
pub mod Version
