-- What the calls answer, as numbers alone.
pub mod Links
pub mod Edits
pub mod Providers
