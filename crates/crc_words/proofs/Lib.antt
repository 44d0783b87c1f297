-- That the public contract leaves one outcome; and what the proofs of the code's stages cite.
pub mod Unique
pub mod Powers
pub mod Words
pub mod Folding
pub mod Bits
pub mod Message
pub mod Steps
