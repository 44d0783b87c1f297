-- 38 of the checked reading of a table: exactly if there is a section of the table whose section_syntax_indicator is not set.
-- Assumes nothing.
use mathlib.Core.Path.{◌≡◌, refl, sym}
use mathlib.Core.Logic.{◌↔◌}
use Prim.Native.Nat.{ℕ, ◌≤◌}
use mathlib.Core.Bool.{true, false, not}
use mathlib.Core.List.{List, [], ◌∷◌}
use lib.ListN.{length, get_or}
use borrow.Author.Tests.{not-true}
use Rattle.wire.specs.Refusals.{no_syntax_indicator}
use Rattle.wire.specs.Verdict.{bad, Verdict}
use Rattle.wire.proofs.Among.{listed, Never, row-never, never-then, never-past, never-behind}
use Rattle.wire.proofs.Verdicts.{passed-ltb, passed-eqb, row-broken, row-says}
use Rattle.section_header.specs.Reading.{syntax_indicator, header_at}
use Rattle.frame.specs.Syntax.{least}
use Rattle.frame.specs.Reading.{checked_demands, opened, checked_by}
use Rattle.frame.specs.declared.Table.{Table}
use Rattle.frame.proofs.Opening.{opened-unindicated}
use Rattle.frame.proofs.Readings.{opening-answers}

-- The bytes of the table's smallest section are there, the first is its id, and the indicator is not set, whatever the lengths, the rest and
-- the CRC are. The figures are byte 1 and 0.
pub record Unindicated (t : Table) (xs : List ℕ) (f g : ℕ) : Type 0 where
  pub enough : least t ≤ length xs
  pub id_is : get_or xs 0 0 ≡ t.id
  pub clear : (header_at xs).section_syntax_indicator ≡ false
  pub figures : (f ≡ get_or xs 1 0) × (g ≡ 0)

module _ (t : Table) (rows : List ℕ → Verdict) (xs : List ℕ) where
  -- of a table whose own numbers have no 38
  pub unindicated-iff : listed no_syntax_indicator (t.other ∷ []) ≡ false → Never no_syntax_indicator (rows xs) → (f g : ℕ)
      → (checked_by t rows xs ≡ bad no_syntax_indicator f g) ↔ Unindicated t xs f g
  unfolding opened
  unindicated-iff other own f g = (to, from)
    where
      n : ℕ
      n = no_syntax_indicator

      answers : (checked_by t rows xs ≡ bad n f g) ↔ (opened t checked_demands xs ≡ bad n f g)
      answers = opening-answers t rows xs n f g own refl

      to : checked_by t rows xs ≡ bad n f g → Unindicated t xs f g
      to e =
          let short = never-past n f g _ _ (row-never n _ _ _ _ refl) (answers.0 e) in
          let id = never-past n f g _ _ (row-never n t.other _ _ _ other) short.1 in
          let lengths = never-then n _ _ (row-never n _ _ _ _ refl) (never-then n _ _ (row-never n _ _ _ _ refl) (row-never n _ _ _ _ refl)) in
          let row = never-behind n f g _ _ lengths id.1 in
          let says = (row-says _ _ _ _ _ f g row).1 in
          record {
            enough = passed-ltb _ _ _ _ _ short.0;
            id_is = passed-eqb _ _ _ _ _ id.0;
            clear = not-true (syntax_indicator (get_or xs 1 0)) (row-broken _ _ _ _ _ f g row);
            figures = (sym says.0, sym says.1);
          }

      from : Unindicated t xs f g → checked_by t rows xs ≡ bad n f g
      from u =
          let clear : not (syntax_indicator (get_or xs 1 0)) ≡ true = rw u.clear in
          answers.1 (rw (u.figures.0, u.figures.1) (opened-unindicated t checked_demands xs u.enough u.id_is clear))
