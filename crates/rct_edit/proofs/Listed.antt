-- Which numbers making, appending and replacing can answer at all: making 38, 22, 25, 28, 29; appending 1 to 20, 38, 30, 22 to 25,
-- 28, 29; replacing the same with 21 for 30.
-- Assumes nothing.
use Prim.Native.Nat.{ℕ}
use mathlib.Core.Path.{◌≡◌, refl}
use mathlib.Core.Bool.{true}
use mathlib.Core.List.{List, [], ◌∷◌, ◌++◌}
use lib.ListN.{length}
use Rattle.wire.specs.Refusals.{no_such_number, too_wide, past_text, section_too_long, no_room, no_more_links}
use Rattle.wire.proofs.Among.{all_listed, Among, among-row, among_then, among-more}
use Rattle.field.proofs.Checks.{field-listed}
use Rattle.link.specs.declared.LinkInfo.{LinkInfo}
use Rattle.link.specs.declared.Range.{Range}
use Rattle.link_draft.proofs.Listed.{link_checks, check-listed, range_listed}
use Rattle.section_header.proofs.HeaderLaws.{header_checks, header-listed}
use Rattle.rct.specs.declared.RctHeader.{RctHeader}
use Rattle.rct.specs.Syntax.{Section}
use Rattle.rct.proofs.Listed.{checked_reading, checked-listed, number-listed}
use Rattle.rct_edit.specs.Edit.{count_row, room_rows, edit_verdict}
use Rattle.rct_edit.specs.Making.{check_loop, check_making}
use Rattle.rct_edit.specs.Calls.{making, appending, replacing}
use Rattle.rct_edit.proofs.Calls.{replacing-verdict, appending-verdict, making-verdict}
use Rattle.wire.specs.Verdict.{Verdict}

-- ---- the room

abbrev pub room_numbers : List ℕ
room_numbers = section_too_long ∷ no_room ∷ []

pub room-listed : (room len : ℕ) → Among room_numbers (room_rows room len)
unfolding room_rows
room-listed room len = among_then room_numbers _ _ (among-row room_numbers _ section_too_long _ _ refl) (among-row room_numbers _ no_room _ _ refl)

-- ---- making

abbrev pub making_checks : List ℕ
making_checks = header_checks ++ past_text ∷ []

abbrev pub making_numbers : List ℕ
making_numbers = making_checks ++ room_numbers

pub checks-listed : (h : RctHeader) (beside have : ℕ) (d : Range) → Among making_checks (check_making h beside have d)
unfolding check_making check_loop
checks-listed h beside have d =
    among_then making_checks _ _ (among-more header_checks making_checks _ refl (header-listed h.section))
    (among_then making_checks _ _ (among-more (too_wide ∷ []) making_checks _ refl (among_then (too_wide ∷ []) _ _ (field-listed _ _) (field-listed _ _)))
    (among-more (past_text ∷ []) making_checks _ refl (range_listed have d)))

pub making-listed : (xs : List ℕ) (h : RctHeader) (beside : ℕ) (t : List ℕ) (d : Range) → Among making_numbers (making xs h beside t d).verdict
making-listed xs h beside t d =
    rw (making-verdict xs h beside t d)
    (among_then making_numbers _ _ (among-more making_checks making_numbers _ refl (checks-listed h beside (length t) d)) (among-more room_numbers making_numbers _ refl (room-listed _ _)))

-- ---- appending and replacing, with the number m of the call's own row

abbrev pub edit_numbers : ℕ → List ℕ
edit_numbers m = checked_reading ++ (m ∷ (link_checks ++ room_numbers))

edit-listed : (ns : List ℕ) (xs : List ℕ) (row v : Verdict) (s : Section) → all_listed checked_reading ns ≡ true → all_listed link_checks ns ≡ true → all_listed room_numbers ns ≡ true
    → Among ns row → Among link_checks v → Among ns (edit_verdict xs row v s)
edit-listed ns xs row v s a b c r l =
    among_then ns _ _ (among-more checked_reading ns _ a (checked-listed xs))
    (among_then ns _ _ r (among_then ns _ _ (among-more link_checks ns _ b l) (among-more room_numbers ns _ c (room-listed _ _))))

pub count-listed : (xs : List ℕ) → Among (no_more_links ∷ []) (count_row xs)
count-listed xs = among-row (no_more_links ∷ []) _ no_more_links _ _ refl

pub appending-listed : (xs t : List ℕ) (i : LinkInfo) → Among (edit_numbers no_more_links) (appending xs t i).verdict
appending-listed xs t i =
    rw (appending-verdict xs t i)
    (edit-listed (edit_numbers no_more_links) xs _ _ _ refl refl refl (among-more (no_more_links ∷ []) (edit_numbers no_more_links) _ refl (count-listed xs)) (check-listed t i))

pub replacing-listed : (xs : List ℕ) (k : ℕ) (t : List ℕ) (i : LinkInfo) → Among (edit_numbers no_such_number) (replacing xs k t i).verdict
replacing-listed xs k t i =
    rw (replacing-verdict xs k t i)
    (edit-listed (edit_numbers no_such_number) xs _ _ _ refl refl refl (among-more (no_such_number ∷ []) (edit_numbers no_such_number) _ refl (number-listed xs k)) (check-listed t i))
