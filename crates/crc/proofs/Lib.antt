-- The laws of the CRC.
pub mod Decoder
pub mod Ending
pub mod Published
-- what these and the code's proofs cite
pub mod Xor
pub mod Shift
pub mod Input
