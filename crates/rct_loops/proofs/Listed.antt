-- Which numbers the walks of the two readings to the loop can answer at all: those of the reading.
-- Assumes nothing.
use Prim.Native.Nat.{ℕ}
use mathlib.Core.Path.{◌≡◌}
use mathlib.Core.Bool.{true}
use mathlib.Core.List.{List}
use Rattle.wire.specs.declared.verdict.Refusal.{Refusal}
use Rattle.wire.proofs.Among.{listed}
use Rattle.rct.specs.Reading.{plain, checked}
use Rattle.rct.proofs.Listed.{plain_reading, checked_reading, plain-listed, checked-listed}
use Rattle.rct_walker.specs.Places.{loop_found}
use Rattle.rct_walker.proofs.Loops.{loop-not}
use Rattle.std.specs.Prelude.{Err}

module _ (xs : List ℕ) (r : Refusal) where
  pub plain-loop-listed : loop_found (plain xs) xs ≡ Err r → listed r.number plain_reading ≡ true
  plain-loop-listed e = plain-listed xs r (loop-not (plain xs) xs r e)

  pub checked-loop-listed : loop_found (checked xs) xs ≡ Err r → listed r.number checked_reading ≡ true
  checked-loop-listed e = checked-listed xs r (loop-not (checked xs) xs r e)
