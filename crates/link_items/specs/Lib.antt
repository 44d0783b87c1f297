-- What an item reader's steps are.
pub mod Steps
