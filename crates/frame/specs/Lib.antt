-- What the sections of every table share: how they begin, how long they are, and how they end.
pub mod Syntax
pub mod Reading
pub mod Ending
