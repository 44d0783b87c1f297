-- What provider by number and authority by number answer.
pub mod Providers
