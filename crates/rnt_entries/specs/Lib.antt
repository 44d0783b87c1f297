-- A provider and an authority by their places; Stages is for the code's own function alone.
pub mod Entries
pub mod Stages
