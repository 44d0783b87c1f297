-- Which numbers a reading of the section can answer at all: the plain one 1 to 19, so neither 28 nor 38; the checked one also 20, 28
-- and 38.
-- Assumes nothing.
use Prim.Native.Nat.{ℕ, zero, suc}
use mathlib.Core.Path.{◌≡◌, refl}
use mathlib.Core.Logic.{◌↔◌}
use mathlib.Core.List.{List, [], ◌∷◌, ◌++◌}
use Rattle.length_field.specs.Lengths.{block_end}
use Rattle.wire.specs.Refusals.{too_short, not_rct, wrong_length, entry_cut, link_too_long, loop_cut, loop_too_long, section_slack, wrong_crc, no_such_number, section_too_long, no_syntax_indicator}
use Rattle.wire.specs.Verdict.{bad}
use Rattle.wire.proofs.Among.{Among, among-fine, among-row, among_then, among-more, Never, among-never}
use Rattle.length_field.proofs.Listed.{block_listed, last-listed}
use Rattle.link.proofs.Listed.{body_reading, body-listed}
use Rattle.frame.specs.Reading.{payload_end}
use Rattle.frame.specs.declared.Demands.{Demands}
use Rattle.frame.proofs.Listed.{plain-among, demanded-among, checked-among}
use Rattle.frame.proofs.Indicator.{Unindicated, unindicated-iff}
use Rattle.frame.proofs.Limit.{AboveLimit, above-iff}
use Rattle.rct.specs.Syntax.{head_length, rct}
use Rattle.rct.specs.Reading.{body_in, count_at, loop_place, entry_verdict, links_verdict, payload_verdict, reading, plain, number_row, checked}

-- 4 to 16, of one entry
abbrev pub entry_reading : List ℕ
entry_reading = entry_cut ∷ link_too_long ∷ body_reading

-- 1 to 19
abbrev pub plain_reading : List ℕ
plain_reading = too_short ∷ not_rct ∷ wrong_length ∷ (entry_reading ++ loop_cut ∷ loop_too_long ∷ section_slack ∷ [])

-- with 28 and 38, which a reading may demand
abbrev pub demanded_reading : List ℕ
demanded_reading = plain_reading ++ section_too_long ∷ no_syntax_indicator ∷ []

-- and 20
abbrev pub checked_reading : List ℕ
checked_reading = demanded_reading ++ wrong_crc ∷ []

-- ---- what stands behind the opening

pub entry_listed : (xs : List ℕ) (e p : ℕ) → Among entry_reading (entry_verdict xs e p)
unfolding entry_verdict
entry_listed xs e p =
    among_then entry_reading _ _ (block_listed entry_reading entry_cut link_too_long refl refl _ _ xs e p) (among-more body_reading entry_reading _ refl (body-listed (body_in xs p)))

links-listed : (n : ℕ) (xs : List ℕ) (e p : ℕ) → Among plain_reading (links_verdict n xs e p)
links-listed zero xs e p = among-fine plain_reading
links-listed (suc n) xs e p = among_then plain_reading _ _ (among-more entry_reading plain_reading _ refl (entry_listed xs e p)) (links-listed n xs e (block_end xs p))

pub payload-listed : (xs : List ℕ) → Among plain_reading (payload_verdict xs)
unfolding payload_verdict
payload-listed xs =
    among_then plain_reading _ _ (links-listed (count_at xs) xs (payload_end xs) head_length)
    (last-listed plain_reading loop_cut loop_too_long refl refl section_slack refl xs (payload_end xs) (loop_place xs))

-- ---- the readings

pub plain-listed : (xs : List ℕ) → Among plain_reading (plain xs)
plain-listed = plain-among rct payload_verdict plain_reading payload-listed refl

-- neither 28 nor 38 is an answer of the plain reading
pub plain-never-28 : (xs : List ℕ) → Never section_too_long (plain xs)
plain-never-28 xs = among-never plain_reading (plain xs) section_too_long (plain-listed xs) refl

pub plain-never-38 : (xs : List ℕ) → Never no_syntax_indicator (plain xs)
plain-never-38 xs = among-never plain_reading (plain xs) no_syntax_indicator (plain-listed xs) refl

pub reading-listed : (d : Demands) (xs : List ℕ) → Among demanded_reading (reading d xs)
reading-listed = demanded-among rct payload_verdict plain_reading payload-listed demanded_reading refl refl

pub checked-listed : (xs : List ℕ) → Among checked_reading (checked xs)
checked-listed = checked-among rct payload_verdict plain_reading payload-listed checked_reading refl refl refl

-- 38 exactly if a section of the table is there and its indicator is not set, whatever else is wrong
pub checked-unindicated : (xs : List ℕ) (f g : ℕ) → (checked xs ≡ bad no_syntax_indicator f g) ↔ Unindicated rct xs f g
checked-unindicated xs = unindicated-iff rct payload_verdict xs refl (among-never plain_reading _ no_syntax_indicator (payload-listed xs) refl)

-- 28 exactly if a whole section of the table is there, its indicator is set and its section_length is above the limit, whatever else is wrong
pub checked-above : (xs : List ℕ) (f g : ℕ) → (checked xs ≡ bad section_too_long f g) ↔ AboveLimit rct xs f g
checked-above xs = above-iff rct payload_verdict xs refl (among-never plain_reading _ section_too_long (payload-listed xs) refl)

-- ---- no such link

pub number-listed : (xs : List ℕ) (k : ℕ) → Among (no_such_number ∷ []) (number_row xs k)
unfolding number_row
number-listed xs k = among-row (no_such_number ∷ []) _ no_such_number _ _ refl
