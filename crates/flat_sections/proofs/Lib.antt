-- That a header's numbers stand for it, that each number stands under its name, what stands beside a refusal, and that each contract leaves one outcome.
pub mod Back
pub mod Names
pub mod Nothing
pub mod Unique
