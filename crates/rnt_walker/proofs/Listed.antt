-- Which numbers a walk can answer at all: those of its reading, whatever is demanded.
-- Assumes nothing.
use Prim.Native.Nat.{ℕ}
use mathlib.Core.Path.{◌≡◌}
use mathlib.Core.Bool.{true}
use mathlib.Core.List.{List}
use Rattle.wire.specs.declared.verdict.Refusal.{Refusal}
use Rattle.wire.proofs.Among.{listed}
use Rattle.frame.specs.declared.Demands.{Demands}
use Rattle.rnt.specs.Reading.{reading}
use Rattle.rnt.proofs.Listed.{demanded_reading, reading-listed}
use Rattle.rnt_walker.specs.Places.{places_at, walked}
use Rattle.rnt_walker.proofs.Walks.{walked-refused}
use Rattle.std.specs.Prelude.{Err}

pub read-places-listed : (d : Demands) (xs : List ℕ) (k j : ℕ) (r : Refusal) → walked (reading d xs) (places_at xs k j) ≡ Err r → listed r.number demanded_reading ≡ true
read-places-listed d xs k j r e = reading-listed d xs r (walked-refused (reading d xs) _ r e)
