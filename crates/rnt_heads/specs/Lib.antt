-- Over the head of a provider, and over an authority.
pub mod Heads
