-- Which numbers a walk can answer at all: those of its reading, whatever is demanded.
-- Assumes nothing.
use Prim.Native.Nat.{ℕ}
use mathlib.Core.Path.{◌≡◌}
use mathlib.Core.Bool.{true}
use mathlib.Core.List.{List}
use Rattle.wire.specs.declared.verdict.Refusal.{Refusal}
use Rattle.wire.proofs.Among.{listed}
use Rattle.frame.specs.declared.Demands.{Demands}
use Rattle.rct.specs.Reading.{reading}
use Rattle.rct.proofs.Listed.{demanded_reading, reading-listed}
use Rattle.rct_walker.specs.Places.{places_at, walked, loop_found}
use Rattle.rct_walker.proofs.Loops.{loop-not}
use Rattle.rct_walker.proofs.Walks.{walked-refused}
use Rattle.std.specs.Prelude.{Err}

pub read-places-listed : (d : Demands) (xs : List ℕ) (k : ℕ) (r : Refusal) → walked (reading d xs) (places_at xs k) ≡ Err r → listed r.number demanded_reading ≡ true
read-places-listed d xs k r e = reading-listed d xs r (walked-refused (reading d xs) _ r e)

pub read-loop-listed : (d : Demands) (xs : List ℕ) (r : Refusal) → loop_found (reading d xs) xs ≡ Err r → listed r.number demanded_reading ≡ true
read-loop-listed d xs r e = reading-listed d xs r (loop-not (reading d xs) xs r e)
