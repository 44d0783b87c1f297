-- That each public contract leaves one outcome; what a word leaves; and what the loops' proofs cite.
pub mod Unique
pub mod Remainder
pub mod Loops
