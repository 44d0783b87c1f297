-- Where a payload that is handed in ends.
-- Assumes nothing.
use Rattle.std.specs.Prelude.{ℕ, min, List, length}
use Rattle.frame.specs.Syntax.{longest_payload}

-- where a payload, the bytes of a section up to its CRC, ends: no section has a longer one
abbrev pub end_of : List ℕ → ℕ
end_of xs = min (length xs) longest_payload
