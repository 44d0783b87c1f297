-- What is right of a link that is to be written: its checks, its length, the bytes that are put down.
pub mod Lengths
pub mod Checks
pub mod Carried
pub mod Order
pub mod Writing
