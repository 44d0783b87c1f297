-- Words of 64 digits, highest first, each standing for the polynomial with these coefficients; what a polynomial leaves on
-- division by the CRC's is a register. Only the private stages' contracts cite these.
-- Assumes nothing.
use Rattle.std.specs.Prelude.{ℕ, ◌+◌, ◌-◌, ◌*◌, ◌^◌, List, [], ◌∷◌, length, drop}
use Rattle.std.specs.Int.Bits.{bit_xor}
use Rattle.wire.specs.Numbers.{be32}
use Rattle.crc.specs.Crc.{clocked, bits_of}
use Rattle.crc.specs.Shifts.{shifts}
use Rattle.crc_register.specs.Remainder.{remainder}
use Rattle.crc_words.specs.declared.folds.NextFive.{NextFive}
use Rattle.crc_words.specs.declared.Reached.{Reached}

-- what words leave behind h, which is what was left before them
abbrev pub after : ℕ → List ℕ → ℕ
after h [] = h
after h (w ∷ ws) = after (bit_xor (shifts 64 h) (remainder w)) ws

-- the word of the eight bytes at i
abbrev pub be64 : List ℕ → ℕ → ℕ
be64 s i = be32 s i * 2 ^ 32 + be32 s (i + 4)

-- The CRC that is due where the bytes of s from i on are still to be read, the words ws to be added to them, and h is left of
-- what was before. 32 clocks follow the last byte.
unfoldable pub due : List ℕ → ℕ → ℕ → List ℕ → ℕ
due s i h ws = bit_xor (shifts (8 * (length s - (i + 8 * length ws)) + 32) (after h ws)) (clocked 0 (bits_of (drop i s)))

-- the same where a word was read and not yet folded, and one is to be added; and where all were folded, onto five
abbrev pub due_word : List ℕ → Reached → ℕ
due_word s m = due s m.at (remainder m.word) (m.next ∷ [])

abbrev pub due_five : List ℕ → NextFive → ℕ
due_five s n = due s n.at 0 (n.a ∷ n.b ∷ n.c ∷ n.d ∷ n.e ∷ [])
