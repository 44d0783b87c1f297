-- What an edit answers.
pub mod Answers
