-- What a provider and an authority by place answer, and that each public contract leaves one outcome.
pub mod EntryLaws
pub mod Listing
pub mod Listed
pub mod Unique
