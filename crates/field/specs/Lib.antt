-- The fields that refusal 22 names.
pub mod Fields
