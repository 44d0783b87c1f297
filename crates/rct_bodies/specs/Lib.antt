-- What the body of a link by number answers.
pub mod Bodies
