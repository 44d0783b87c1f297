-- A number as a flag.
-- Assumes nothing.
use Rattle.std.specs.Prelude.{ℕ, Bool, ltb}

-- 0 is no, anything else is yes
abbrev pub is_set : ℕ → Bool
is_set n = ltb 0 n
