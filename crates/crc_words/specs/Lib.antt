-- What the code's private stages do. The public contract cites none of it, only `crc_of` of crc.
pub mod Words
