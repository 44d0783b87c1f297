-- What a word of 64 digits, highest first, leaves on division by the CRC's polynomial, where it stands for the polynomial with these
-- coefficients. That is a register.
-- Assumes nothing.
use Rattle.std.specs.Prelude.{ℕ, ◌/◌, ◌%◌, ◌^◌}
use Rattle.std.specs.Int.Bits.{bit_xor}
use Rattle.crc.specs.Shifts.{shifts}

-- its higher half, times x^32, and its lower half
unfoldable pub remainder : ℕ → ℕ
remainder w = bit_xor (shifts 32 (w / 2 ^ 32)) (w % 2 ^ 32)
