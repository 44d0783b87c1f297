-- What a reading of the whole related content section answers.
pub mod Sections
