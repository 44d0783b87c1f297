-- Which numbers a walk over one entry can answer at all: 4 and 5.
-- Assumes nothing.
use Prim.Native.Nat.{ℕ}
use mathlib.Core.Path.{◌≡◌, refl}
use mathlib.Core.Bool.{true}
use mathlib.Core.List.{List, [], ◌∷◌}
use Rattle.wire.specs.Refusals.{entry_cut, link_too_long}
use Rattle.wire.specs.Verdict.{reached}
use Rattle.wire.specs.declared.verdict.Refusal.{Refusal}
use Rattle.wire.proofs.Among.{listed}
use Rattle.wire.proofs.Verdicts.{reached-refused}
use Rattle.length_field.specs.Lengths.{block_end}
use Rattle.length_field.proofs.Listed.{block_listed}
use Rattle.rct.specs.Reading.{entry_rows}
use Rattle.rct_blocks.specs.Ends.{end_of}
use Rattle.std.specs.Prelude.{Err}

-- 4 and 5
abbrev pub length_reading : List ℕ
length_reading = entry_cut ∷ link_too_long ∷ []

pub past-entry-length-listed : (xs : List ℕ) (p : ℕ) (r : Refusal) → reached (entry_rows xs (end_of xs) p) (block_end xs p) ≡ Err r → listed r.number length_reading ≡ true
past-entry-length-listed xs p r e = block_listed length_reading entry_cut link_too_long refl refl _ _ xs (end_of xs) p r (reached-refused _ _ r e)
