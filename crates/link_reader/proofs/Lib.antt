-- What a turn and a return of the code know, and that each public contract leaves one outcome.
pub mod Numbered
pub mod Filled
pub mod Unique
