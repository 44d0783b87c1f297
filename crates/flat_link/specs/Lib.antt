-- A link's record as numbers alone, and the record that such numbers stand for.
pub mod Links
