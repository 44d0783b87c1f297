-- The published check value of this CRC (CRC-32/MPEG-2), computed: that of the nine ASCII digits 1 to 9 is 0x0376E6E7.
-- With another polynomial, start or order of the bits in the definition the row has no proof.
-- Assumes nothing.
use mathlib.Core.Path.{◌≡◌, refl}
use mathlib.Core.List.{[], ◌∷◌}
use Rattle.crc.specs.Crc.{clock, crc_of}

pub check-value : crc_of (0x31 ∷ 0x32 ∷ 0x33 ∷ 0x34 ∷ 0x35 ∷ 0x36 ∷ 0x37 ∷ 0x38 ∷ 0x39 ∷ []) ≡ 0x0376_E6E7
unfolding crc_of clock
check-value = refl
