-- What a word leaves in the register. The CRC itself is `crc_of` of crc.
pub mod Remainder
