-- Writing into a list at a place: `sets xs at vs` of lib.Seq stores vs one after the other from at on.
-- Assumes nothing.
use Rattle.std.specs.Prelude.{ℕ, ◌+◌, Bool, List, ◌≡◌, leb, length}
use Rattle.std.proofs.lemmas.List.Edits.{sets}
use Rattle.wire.specs.Choice.{pick}

-- there is room in xs for vs from at on
abbrev pub room_at : List ℕ → ℕ → List ℕ → Bool
room_at xs at vs = leb (at + length vs) (length xs)

-- xs with vs written from at on, where there is room for them, and else xs
abbrev pub put_at : List ℕ → ℕ → List ℕ → List ℕ
put_at xs at vs = pick (room_at xs at vs) (sets xs at vs) xs

-- vs were written into xs from at on, which made ys; next is the place behind them
pub record Wrote (xs : List ℕ) (at : ℕ) (vs ys : List ℕ) (next : ℕ) : Type 0 where
  pub bytes : ys ≡ sets xs at vs
  pub place : next ≡ at + length vs
