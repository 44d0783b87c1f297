-- What the numbers of how_related stand for.
pub mod Schemes
