-- Which numbers the opening of a section can answer at all: 1, the table's own for another table, 3; 38 where the indicator is
-- demanded, and 28 where not every length that the field holds is taken. The check of the CRC answers 20.
-- Assumes nothing.
use Prim.Native.Nat.{ℕ, ◌≤◌}
use mathlib.Core.Path.{◌≡◌, refl, sym, ◌∙◌}
use mathlib.Core.Bool.{Bool, true, false, false≢true}
use mathlib.Core.List.{List, [], ◌∷◌, ◌++◌}
use native.Mathlib.Omega.{arith}
use lib.Dec.{ltb}
use lib.ListN.{get_or}
use Rattle.wire.specs.Choice.{pick}
use Rattle.length_field.specs.Lengths.{longest}
use Rattle.wire.specs.Refusals.{too_short, wrong_length, wrong_crc, section_too_long, no_syntax_indicator}
use Rattle.wire.specs.Verdict.{bad, refuse, Fine, Verdict}
use Rattle.wire.proofs.Among.{listed, all_listed, listed_here, listed-behind, Among, among-fine, among-row, among_then, among-more}
use Rattle.wire.proofs.Verdicts.{pass-ltb, due-pass}
use Rattle.section_header.specs.Reading.{syntax_indicator}
use Rattle.frame.specs.Reading.{declared, plain_demands, checked_demands, indicator_row, opened, crc_row, reading_by, checked_by}
use Rattle.frame.specs.Ending.{crc_room, crc_verdict}
use Rattle.frame.specs.declared.Table.{Table}
use Rattle.frame.specs.declared.Demands.{Demands}

-- ---- the opening

abbrev lengths : List ℕ
lengths = too_short ∷ wrong_length ∷ []

-- and those of what a reading demands
abbrev demanded_lengths : List ℕ
demanded_lengths = lengths ++ no_syntax_indicator ∷ section_too_long ∷ []

abbrev pub opening : Table → List ℕ
opening t = t.other ∷ lengths

abbrev pub demanded_opening : Table → List ℕ
demanded_opening t = t.other ∷ demanded_lengths

module _ (t : Table) (d : Demands) (xs : List ℕ) where
  limit_row : Verdict
  limit_row = refuse (ltb d.most (declared xs)) section_too_long (declared xs) d.most

  -- by the other numbers of the list
  rows-listed : (ms : List ℕ) → listed too_short ms ≡ true → listed wrong_length ms ≡ true → Among (t.other ∷ ms) (indicator_row d xs) → Among (t.other ∷ ms) limit_row → Among (t.other ∷ ms) (opened t d xs)
  unfolding opened limit_row
  rows-listed ms s w i l =
      let ns : List ℕ = t.other ∷ ms in
      let wrong : listed wrong_length ns ≡ true = listed-behind wrong_length t.other ms w in
      among_then ns _ _ (among-row ns _ too_short _ _ (listed-behind too_short t.other ms s))
      (among_then ns _ _ (among-row ns _ t.other _ _ (listed_here t.other ms))
      (among_then ns _ _ i (among_then ns _ _ (among-row ns _ wrong_length _ _ wrong) (among_then ns _ _ (among-row ns _ wrong_length _ _ wrong) l))))

  -- whatever is demanded
  pub demanded-listed : Among (demanded_opening t) (opened t d xs)
  unfolding limit_row
  demanded-listed =
      let behind : (n : ℕ) → listed n demanded_lengths ≡ true → listed n (demanded_opening t) ≡ true = λ n h. listed-behind n t.other demanded_lengths h in
      rows-listed demanded_lengths refl refl (among-row (demanded_opening t) _ no_syntax_indicator _ _ (behind no_syntax_indicator refl)) (among-row (demanded_opening t) _ section_too_long _ _ (behind section_too_long refl))

  -- neither 38 nor 28 where the indicator is not demanded and every length is taken that 12 bits tell, as in the plain reading
  pub opening-listed : d.indicator ≡ false → longest ≤ d.most → Among (opening t) (opened t d xs)
  unfolding limit_row
  opening-listed u h =
      let indicator : indicator_row d xs ≡ Fine = due-pass d.indicator (syntax_indicator (get_or xs 1 0)) _ _ _ (λ e. absurd (false≢true (sym u ∙ e))) in
      let limit : limit_row ≡ Fine = pass-ltb d.most (declared xs) _ _ _ (omega arith) in
      rows-listed lengths refl refl (rw indicator (among-fine (opening t))) (rw limit (among-fine (opening t)))

-- ---- the CRC

pub crc-listed : (xs : List ℕ) (e : ℕ) → Among (wrong_crc ∷ []) (crc_row xs e)
unfolding crc_row
crc-listed xs e = among-row (wrong_crc ∷ []) _ wrong_crc _ _ refl

pub crc-verdict-listed : (xs : List ℕ) (e : ℕ) → Among (wrong_crc ∷ []) (crc_verdict xs e)
unfolding crc_verdict
crc-verdict-listed xs e = by (crc_room xs e)
  where
    by : (b : Bool) → Among (wrong_crc ∷ []) (pick b (crc_row xs e) (bad wrong_crc 0 0))
    by true = crc-listed xs e
    by false = unfold refuse in among-row (wrong_crc ∷ []) true wrong_crc 0 0 refl

-- ---- the readings of a table whose own rows keep to the list ns

module _ (t : Table) (rows : List ℕ → Verdict) (ns : List ℕ) (own : (xs : List ℕ) → Among ns (rows xs)) where
  pub plain-among : all_listed (opening t) ns ≡ true → (xs : List ℕ) → Among ns (reading_by t rows plain_demands xs)
  unfolding reading_by
  plain-among a xs = among_then ns _ _ (among-more (opening t) ns _ a (opening-listed t plain_demands xs refl (omega arith))) (own xs)

  -- whatever is demanded, by a list ms that has those, 38 and 28; the checked reading, if ms has 20 too
  module _ (ms : List ℕ) (a : all_listed (demanded_opening t) ms ≡ true) (more : all_listed ns ms ≡ true) where
    pub demanded-among : (d : Demands) (xs : List ℕ) → Among ms (reading_by t rows d xs)
    unfolding reading_by
    demanded-among d xs = among_then ms _ _ (among-more (demanded_opening t) ms _ a (demanded-listed t d xs)) (among-more ns ms _ more (own xs))

    pub checked-among : listed wrong_crc ms ≡ true → (xs : List ℕ) → Among ms (checked_by t rows xs)
    unfolding checked_by crc_row
    checked-among crc xs = among_then ms _ _ (demanded-among checked_demands xs) (among-row ms _ wrong_crc _ _ crc)
