-- What the calls answer that every table has. A call that is handed a number to refuse with, or a verdict, has no number of its own
-- that is not on the list.
-- Assumes nothing.
use Prim.Native.Nat.{ℕ}
use mathlib.Core.Path.{◌≡◌, refl}
use mathlib.Core.Bool.{Bool, true, false}
use mathlib.Core.List.{List, [], ◌∷◌}
use lib.Dec.{eqb}
use Rattle.length_field.specs.Lengths.{long_row, last_rows}
use Rattle.wire.specs.Choice.{pick}
use Rattle.wire.specs.Refusals.{too_short, wrong_length, wrong_crc, section_too_long, no_syntax_indicator}
use Rattle.wire.specs.Verdict.{reached, ◌▷◌, Verdict}
use Rattle.wire.specs.declared.verdict.Refusal.{Refusal}
use Rattle.wire.proofs.Among.{listed, all_listed, listed_here, listed-behind, listed_more, Among, among-row, among_then}
use Rattle.wire.proofs.Verdicts.{reached-refused}
use Rattle.section_header.specs.Checks.{check_header}
use Rattle.section_header.specs.declared.SectionHeader.{SectionHeader}
use Rattle.section_header.proofs.HeaderLaws.{header_checks, header-listed}
use Rattle.frame.specs.Reading.{total_of, opened}
use Rattle.frame.specs.Ending.{crc_verdict}
use Rattle.frame.specs.declared.Demands.{Demands}
use Rattle.frame.specs.declared.Table.{Table}
use Rattle.frame.proofs.Listed.{demanded-listed, crc-verdict-listed}
use Rattle.refusals.specs.FixedList.{fixed_list}
use Rattle.refusals.proofs.Given.{Given, given}
use Rattle.std.specs.Prelude.{Err}

-- ---- what is handed in

-- the first of two verdicts hands on
pub first-of-given : (ns : List ℕ) (a b : Verdict) → Among ns a → Among ns b → Among ns (a ▷ b)
first-of-given ns a b p q = among_then ns a b p q

-- a length against what is left: the numbers handed in alone
pub check-left-given : (long length left : ℕ) → Among (long ∷ []) (long_row long length left)
unfolding long_row
check-left-given long length left = among-row (long ∷ []) _ long _ _ (listed_here long [])

pub check-last-given : (long slack length left : ℕ) → Among (long ∷ slack ∷ []) (last_rows long slack length left)
unfolding last_rows long_row
check-last-given long slack length left =
    let ns : List ℕ = long ∷ slack ∷ [] in
    first-of-given ns _ _ (among-row ns _ long _ _ (listed_here long (slack ∷ [])))
    (among-row ns _ slack _ _ (listed-behind slack long (slack ∷ []) (listed_here slack [])))

-- the number that a list begins with, or one of a longer rest
or-more : (n m : ℕ) (ns ms : List ℕ) → all_listed ns ms ≡ true → listed n (m ∷ ns) ≡ true → listed n (m ∷ ms) ≡ true
or-more n m ns ms a e = by (eqb n m) e
  where
    by : (b : Bool) → pick b true (listed n ns) ≡ true → pick b true (listed n ms) ≡ true
    by true h = refl
    by false h = listed_more ns ms n a h

-- a section of any table: the table's own number for another table, or one of the list
pub open-given : (t : Table) (d : Demands) (xs : List ℕ) (r : Refusal) → reached (opened t d xs) (total_of xs) ≡ Err r → listed r.number (t.other ∷ fixed_list) ≡ true
open-given t d xs r e =
    or-more r.number t.other (too_short ∷ wrong_length ∷ no_syntax_indicator ∷ section_too_long ∷ []) fixed_list refl
    (demanded-listed t d xs r (reached-refused _ _ r e))

-- ---- a section's header and its CRC

pub check-crc-given : (xs : List ℕ) (e : ℕ) → Given (crc_verdict xs e)
check-crc-given xs e = given (wrong_crc ∷ []) _ refl (crc-verdict-listed xs e)

pub check-header-given : (h : SectionHeader) → Given (check_header h)
check-header-given h = given header_checks _ refl (header-listed h)
