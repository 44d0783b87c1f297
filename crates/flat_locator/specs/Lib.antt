-- A locator's record as numbers alone, and the record that such numbers stand for.
pub mod Flags
pub mod Locators
