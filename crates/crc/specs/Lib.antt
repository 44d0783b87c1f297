-- What a CRC is; and apart from it, what its laws and the code's stages say of the register.
pub mod Crc
pub mod Shifts
