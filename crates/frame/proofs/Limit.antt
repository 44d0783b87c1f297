-- The limit of section_length: 4093, below what the field's 12 bits tell; and 28 of the checked reading of a table, exactly if a whole
-- section of the table is there, its section_syntax_indicator is set, and its section_length is above the limit.
-- Assumes nothing.
use mathlib.Core.Path.{◌≡◌, refl, sym}
use mathlib.Core.Logic.{◌↔◌}
use Prim.Native.Nat.{ℕ, ◌+◌, ◌≤◌, ◌<◌}
use mathlib.Core.Bool.{true, false, not}
use mathlib.Core.List.{List, [], ◌∷◌}
use native.Mathlib.Omega.{arith}
use lib.ListN.{length, get_or}
use Rattle.length_field.specs.Lengths.{longest}
use Rattle.wire.specs.Refusals.{section_too_long}
use Rattle.wire.specs.Verdict.{bad, Verdict}
use Rattle.wire.proofs.Among.{listed, Never, row-never, never-past}
use Rattle.wire.proofs.Verdicts.{passed-ltb, passed-eqb, broken-ltb, due-passed, row-says}
use Rattle.section_header.specs.Reading.{syntax_indicator, header_at}
use Rattle.frame.specs.Syntax.{uncounted, limit, least}
use Rattle.frame.specs.Reading.{declared, total_of, checked_demands, plain_demands, opened, checked_by}
use Rattle.frame.specs.declared.Table.{Table}
use Rattle.frame.proofs.Opening.{opened-long}
use Rattle.frame.proofs.Readings.{opening-answers}

-- ISO/IEC 13818-1's two numbers, as it has them, and what the 12 bits of the field tell
pub record Limits : Type 0 where
  pub section_length : limit ≡ 4093
  pub whole : uncounted + limit ≡ 4096
  pub field : longest ≡ 4095
  pub checked : checked_demands.most ≡ 4093
  pub plain : plain_demands.most ≡ 4095

pub limits : Limits
limits = record { section_length = refl; whole = refl; field = refl; checked = refl; plain = refl }

-- Bytes that begin with a whole section of the table, with the indicator set and section_length above the limit, whatever the rest and the
-- CRC are. The figures are the section's own length, and the limit.
pub record AboveLimit (t : Table) (xs : List ℕ) (f g : ℕ) : Type 0 where
  pub id_is : get_or xs 0 0 ≡ t.id
  pub indicated : (header_at xs).section_syntax_indicator ≡ true
  pub large : least t ≤ total_of xs
  pub within : total_of xs ≤ length xs
  pub above : limit < declared xs
  pub figures : (f ≡ declared xs) × (g ≡ limit)

module _ (t : Table) (rows : List ℕ → Verdict) (xs : List ℕ) where
  -- of a table whose own numbers have no 28
  pub above-iff : listed section_too_long (t.other ∷ []) ≡ false → Never section_too_long (rows xs) → (f g : ℕ)
      → (checked_by t rows xs ≡ bad section_too_long f g) ↔ AboveLimit t xs f g
  unfolding opened
  above-iff other own f g = (to, from)
    where
      n : ℕ
      n = section_too_long

      answers : (checked_by t rows xs ≡ bad n f g) ↔ (opened t checked_demands xs ≡ bad n f g)
      answers = opening-answers t rows xs n f g own refl

      to : checked_by t rows xs ≡ bad n f g → AboveLimit t xs f g
      to e =
          let short = never-past n f g _ _ (row-never n _ _ _ _ refl) (answers.0 e) in
          let id = never-past n f g _ _ (row-never n t.other _ _ _ other) short.1 in
          let set = never-past n f g _ _ (row-never n _ _ _ _ refl) id.1 in
          let small = never-past n f g _ _ (row-never n _ _ _ _ refl) set.1 in
          let cut = never-past n f g _ _ (row-never n _ _ _ _ refl) small.1 in
          let says = (row-says _ _ _ _ _ f g cut.1).1 in
          record {
            id_is = passed-eqb _ _ _ _ _ id.0;
            indicated = due-passed true (syntax_indicator (get_or xs 1 0)) _ _ _ set.0 refl;
            large = passed-ltb _ _ _ _ _ small.0;
            within = passed-ltb _ _ _ _ _ cut.0;
            above = broken-ltb _ _ _ _ _ _ f g cut.1;
            figures = (sym says.0, sym says.1);
          }

      from : AboveLimit t xs f g → checked_by t rows xs ≡ bad n f g
      from u =
          let set : not (syntax_indicator (get_or xs 1 0)) ≡ false = rw u.indicated in
          answers.1
          (rw (u.figures.0, u.figures.1) (opened-long t checked_demands xs (omega (arith, u.large, u.within)) u.id_is set u.large u.within u.above))
