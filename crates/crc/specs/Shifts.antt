-- Clocks with 0 at the input. The register's laws are stated in them, and so is what a word leaves (crc_register); no contract of a
-- CRC cites them. As a polynomial, the register is multiplied by x at each.
-- Assumes nothing.
use Rattle.std.specs.Prelude.{ℕ, zero, suc}
use Rattle.crc.specs.Crc.{clock}

unfoldable pub shift : ℕ → ℕ
shift r = clock r 0

-- n of them: the register times x^n
unfoldable pub shifts : ℕ → ℕ → ℕ
shifts zero r = r
shifts (suc n) r = shift (shifts n r)
