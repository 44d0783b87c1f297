-- What the numbers of a link's type stand for.
pub mod Numbers
pub mod Types
