-- Bytes of a list moved to another place of it, as if all were read before the first is written.
-- Assumes nothing.
use Rattle.std.specs.Prelude.{ℕ, ◌+◌, Bool, false, List, leb, length}
use Rattle.std.proofs.lemmas.List.Edits.{sets}
use Rattle.wire.specs.Choice.{pick}
use Rattle.wire.specs.Lists.{part}

-- xs has n bytes at p, and places for as many at q
unfoldable pub both_within : List ℕ → ℕ → ℕ → ℕ → Bool
both_within xs p q n = pick (leb (p + n) (length xs)) (leb (q + n) (length xs)) false

-- the n bytes that stand at p stand at q then, where xs has both, and else nothing changes
unfoldable pub moved_within : List ℕ → ℕ → ℕ → ℕ → List ℕ
moved_within xs p q n = pick (both_within xs p q n) (sets xs q (part xs p n)) xs
