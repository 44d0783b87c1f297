-- That a flat record and the library's stand for the same locator, number by number, what any number says, and that each contract leaves one outcome.
pub mod Back
pub mod Names
pub mod Numbers
pub mod Unique
