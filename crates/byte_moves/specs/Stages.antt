-- The two moves under way: for the code's own stages, and nothing that a public contract cites.
-- Assumes nothing.
use Rattle.std.specs.Prelude.{ℕ, ◌+◌, List, take, drop}
use Rattle.std.proofs.lemmas.List.Edits.{sets}
use Rattle.wire.specs.Lists.{part}

-- the bytes of a run
abbrev pub run : ℕ
run = 32

-- up, from the last one down: of the n bytes at p all but the first k stand at their places from q on
abbrev pub moved_up : List ℕ → ℕ → ℕ → ℕ → ℕ → List ℕ
moved_up xs p q n k = sets xs (q + k) (drop k (part xs p n))

-- down, from the first one up: of the n bytes at p the first k stand at their places from q on
abbrev pub moved_down : List ℕ → ℕ → ℕ → ℕ → ℕ → List ℕ
moved_down xs p q n k = sets xs q (take k (part xs p n))
