-- Which numbers a reading of the whole can answer at all: the plain one 1 to 19, the checked one also 20.
-- Assumes nothing.
use Prim.Native.Nat.{ℕ}
use mathlib.Core.Path.{◌≡◌}
use mathlib.Core.Bool.{true}
use mathlib.Core.List.{List}
use Rattle.wire.specs.declared.verdict.Refusal.{Refusal}
use Rattle.wire.proofs.Among.{listed}
use Rattle.rct.specs.Reading.{plain, checked}
use Rattle.rct.proofs.Listed.{plain_reading, checked_reading, plain-listed, checked-listed}
use Rattle.rct_reader.specs.Sections.{section_read}
use Rattle.rct_reader.proofs.Wholes.{read-refused}
use Rattle.std.specs.Prelude.{Err}

module _ (xs : List ℕ) (r : Refusal) where
  pub read-section-listed : section_read (plain xs) xs ≡ Err r → listed r.number plain_reading ≡ true
  read-section-listed e = plain-listed xs r (read-refused (plain xs) xs r e)

  pub check-section-listed : section_read (checked xs) xs ≡ Err r → listed r.number checked_reading ≡ true
  check-section-listed e = checked-listed xs r (read-refused (checked xs) xs r e)
