-- Making, appending and replacing, by the records; what is checked before a section is made; what the calls answer, and what
-- becomes of its head.
pub mod Edit
pub mod Answers
pub mod Rehead
pub mod Making
pub mod Calls
