-- What the code makes of one word, which only its private functions speak of.
-- Assumes nothing.
use Rattle.std.specs.Prelude.{ℕ, Bool, set}
use Rattle.number_set.specs.Members.{width, bits, word}

-- a word with one of its bits as told
abbrev pub turn : ℕ → ℕ → Bool → ℕ
turn w k b = word (set (bits width w) k b)
