-- What a link is: its record, the syntax of its body, the reading of a body, and what the calls that read one answer.
pub mod Options
pub mod Syntax
pub mod Reading
pub mod Records
pub mod Answers
pub mod Parts
