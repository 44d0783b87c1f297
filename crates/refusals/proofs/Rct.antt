-- What the calls on a related content section answer.
-- Assumes nothing.
use Prim.Native.Nat.{ℕ}
use mathlib.Core.Path.{◌≡◌, refl, sym, ap, ◌∙◌}
use mathlib.Core.List.{List, ◌∷◌}
use Rattle.wire.specs.Refusals.{not_rct, loop_cut, loop_too_long, section_slack, no_such_number, no_more_links}
use Rattle.wire.specs.Verdict.{reached, verdict_of}
use Rattle.wire.specs.declared.verdict.Refusal.{Refusal}
use Rattle.length_field.specs.Lengths.{block_end}
use Rattle.length_field.proofs.Listed.{last-listed}
use Rattle.link.specs.declared.LinkInfo.{LinkInfo}
use Rattle.link.specs.declared.Range.{Range}
use Rattle.frame.specs.Reading.{total_of, opened}
use Rattle.frame.specs.declared.Demands.{Demands}
use Rattle.rct.specs.Syntax.{rct}
use Rattle.rct.specs.Reading.{entry_rows, loop_verdict, reading, plain, checked}
use Rattle.rct.specs.declared.RctHeader.{RctHeader}
use Rattle.rct.proofs.Listed.{plain_reading, demanded_reading, checked_reading, entry_reading}
use Rattle.rct_blocks.specs.Ends.{end_of}
use Rattle.rct_blocks.proofs.Listed.{length_reading, past-entry-length-listed}
use Rattle.rct_walker.specs.Places.{places_at, walked, loop_found}
use Rattle.rct_walker.proofs.Listed.{read-places-listed, read-loop-listed}
use Rattle.rct_entries.specs.Entries.{entry_read}
use Rattle.rct_entries.proofs.Listed.{entry-read-listed}
use Rattle.rct_readings.proofs.Listed.{plain-places-listed, checked-places-listed}
use Rattle.rct_loops.proofs.Listed.{plain-loop-listed, checked-loop-listed}
use Rattle.rct_reader.specs.Sections.{section_read}
use Rattle.rct_reader.proofs.Listed.{read-section-listed, check-section-listed}
use Rattle.rct_bodies.specs.Bodies.{numbered_body}
use Rattle.rct_bodies.proofs.Listed.{number_reading, body-listed}
use Rattle.rct_links.specs.Links.{numbered_link, numbered_item}
use Rattle.rct_links.proofs.Listed.{link-listed, item-listed}
use Rattle.rct_edit.specs.Edit.{room_rows}
use Rattle.edit_answers.specs.Answers.{edited_by}
use Rattle.rct_edit.specs.Calls.{making, appending, replacing, appending_placed, replacing_placed}
use Rattle.rct_edit.proofs.Placed.{appending-edited, replacing-edited}
use Rattle.rct_edit.proofs.Listed.{room_numbers, making_numbers, edit_numbers, room-listed, making-listed, appending-listed, replacing-listed}
use Rattle.rct_index.specs.Building.{build_verdict, building}
use Rattle.rct_index.specs.Editing.{appending_indexed, replacing_indexed}
use Rattle.rct_index.specs.declared.RctIndex.{RctIndex}
use Rattle.rct_index.proofs.Built.{build_reading, built-refused, build-listed}
use Rattle.refusals.specs.FixedList.{fixed_list}
use Rattle.refusals.proofs.Frames.{open-given}
use Rattle.refusals.proofs.Given.{Given, OnList, given, on_list}
use Rattle.std.specs.Prelude.{Err, Ok}
use Rattle.wire.proofs.Verdicts.{reached-refused}

-- ---- the opening, by this table

pub open-rct-given : (d : Demands) (xs : List ℕ) (r : Refusal) → reached (opened rct d xs) (total_of xs) ≡ Err r → OnList r
open-rct-given d xs r e = on_list (not_rct ∷ fixed_list) r refl (open-given rct d xs r e)

-- ---- reading

pub read-section-given : (xs : List ℕ) (r : Refusal) → section_read (plain xs) xs ≡ Err r → OnList r
read-section-given xs r e = on_list plain_reading r refl (read-section-listed xs r e)

pub check-section-given : (xs : List ℕ) (r : Refusal) → section_read (checked xs) xs ≡ Err r → OnList r
check-section-given xs r e = on_list checked_reading r refl (check-section-listed xs r e)

pub numbered-body-given : (xs : List ℕ) (k : ℕ) (r : Refusal) → numbered_body xs k ≡ Err r → OnList r
numbered-body-given xs k r e = on_list number_reading r refl (body-listed xs k r e)

pub read-link-given : (xs : List ℕ) (k : ℕ) → Given (verdict_of (numbered_link xs k))
read-link-given xs k = given number_reading _ refl (link-listed xs k)

pub read-item-given : (xs : List ℕ) (k i : ℕ) (r : Refusal) → numbered_item xs k i ≡ Err r → OnList r
read-item-given xs k i r e = on_list number_reading r refl (item-listed xs k i r e)

-- ---- walks

pub read-entry-given : (xs : List ℕ) (p : ℕ) (r : Refusal) → entry_read xs p ≡ Err r → OnList r
read-entry-given xs p r e = on_list entry_reading r refl (entry-read-listed xs p r e)

pub past-entry-length-given : (xs : List ℕ) (p : ℕ) (r : Refusal) → reached (entry_rows xs (end_of xs) p) (block_end xs p) ≡ Err r → OnList r
past-entry-length-given xs p r e = on_list length_reading r refl (past-entry-length-listed xs p r e)

pub check-loop-given : (xs : List ℕ) (p : ℕ) → Given (loop_verdict xs (end_of xs) p)
check-loop-given xs p = last-listed fixed_list loop_cut loop_too_long refl refl section_slack refl xs (end_of xs) p

module _ (xs : List ℕ) (r : Refusal) where
  pub read-places-given : (d : Demands) (k : ℕ) → walked (reading d xs) (places_at xs k) ≡ Err r → OnList r
  read-places-given d k e = on_list demanded_reading r refl (read-places-listed d xs k r e)

  pub read-loop-given : (d : Demands) → loop_found (reading d xs) xs ≡ Err r → OnList r
  read-loop-given d e = on_list demanded_reading r refl (read-loop-listed d xs r e)

  pub plain-places-given : (k : ℕ) → walked (plain xs) (places_at xs k) ≡ Err r → OnList r
  plain-places-given k e = on_list plain_reading r refl (plain-places-listed xs r k e)

  pub checked-places-given : (k : ℕ) → walked (checked xs) (places_at xs k) ≡ Err r → OnList r
  checked-places-given k e = on_list checked_reading r refl (checked-places-listed xs r k e)

  pub plain-loop-given : loop_found (plain xs) xs ≡ Err r → OnList r
  plain-loop-given e = on_list plain_reading r refl (plain-loop-listed xs r e)

  pub checked-loop-given : loop_found (checked xs) xs ≡ Err r → OnList r
  checked-loop-given e = on_list checked_reading r refl (checked-loop-listed xs r e)

-- ---- writing

pub check-room-given : (room len : ℕ) → Given (room_rows room len)
check-room-given room len = given room_numbers _ refl (room-listed room len)

pub make-given : (xs : List ℕ) (h : RctHeader) (beside : ℕ) (t : List ℕ) (d : Range) → Given (making xs h beside t d).verdict
make-given xs h beside t d = given making_numbers _ refl (making-listed xs h beside t d)

pub append-given : (xs t : List ℕ) (i : LinkInfo) → Given (appending xs t i).verdict
append-given xs t i = given (edit_numbers no_more_links) _ refl (appending-listed xs t i)

pub replace-given : (xs : List ℕ) (k : ℕ) (t : List ℕ) (i : LinkInfo) → Given (replacing xs k t i).verdict
replace-given xs k t i = given (edit_numbers no_such_number) _ refl (replacing-listed xs k t i)

-- with the places of the section: the refusal is that of the edit without them
pub append-placed-given : (xs t : List ℕ) (i : LinkInfo) (r : Refusal) → appending_placed xs t i ≡ Err r → OnList r
unfolding edited_by
append-placed-given xs t i r e = append-given xs t i r (reached-refused _ _ r (sym (appending-edited xs t i) ∙ ap edited_by e))

pub replace-placed-given : (xs : List ℕ) (k : ℕ) (t : List ℕ) (i : LinkInfo) (r : Refusal) → replacing_placed xs k t i ≡ Err r → OnList r
unfolding edited_by
replace-placed-given xs k t i r e = replace-given xs k t i r (reached-refused _ _ r (sym (replacing-edited xs k t i) ∙ ap edited_by e))

-- ---- the index

pub build-index-given : (xs : List ℕ) (r : Refusal) → building xs ≡ Err r → OnList r
unfolding building
build-index-given xs r e = given build_reading _ refl (build-listed xs) r (built-refused (build_verdict xs) _ r e)

pub append-indexed-given : (xs t : List ℕ) (k : LinkInfo) (i : RctIndex) (r : Refusal) → (appending_indexed xs t k i).edited ≡ Err r → OnList r
unfolding appending_indexed
append-indexed-given xs t k i r e = append-given xs t k r (reached-refused _ _ r e)

pub replace-indexed-given : (xs : List ℕ) (n : ℕ) (t : List ℕ) (k : LinkInfo) (i : RctIndex) (r : Refusal) → (replacing_indexed xs n t k i).edited ≡ Err r → OnList r
unfolding replacing_indexed
replace-indexed-given xs n t k i r e = replace-given xs n t k r (reached-refused _ _ r e)
