-- Which numbers the walks of the two readings can answer at all: those of the reading.
-- Assumes nothing.
use Prim.Native.Nat.{ℕ}
use mathlib.Core.Path.{◌≡◌}
use mathlib.Core.Bool.{true}
use mathlib.Core.List.{List}
use Rattle.wire.specs.declared.verdict.Refusal.{Refusal}
use Rattle.wire.proofs.Among.{listed}
use Rattle.rnt.specs.Reading.{plain, checked}
use Rattle.rnt.proofs.Listed.{plain_reading, checked_reading, plain-listed, checked-listed}
use Rattle.rnt_walker.specs.Places.{places_at, walked}
use Rattle.rnt_walker.proofs.Walks.{walked-refused}
use Rattle.std.specs.Prelude.{Err}

module _ (xs : List ℕ) (k j : ℕ) (r : Refusal) where
  pub plain-places-listed : walked (plain xs) (places_at xs k j) ≡ Err r → listed r.number plain_reading ≡ true
  plain-places-listed e = plain-listed xs r (walked-refused (plain xs) _ r e)

  pub checked-places-listed : walked (checked xs) (places_at xs k j) ≡ Err r → listed r.number checked_reading ≡ true
  checked-places-listed e = checked-listed xs r (walked-refused (checked xs) _ r e)
