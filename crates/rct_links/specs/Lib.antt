-- What link by number and item by number answer.
pub mod Links
