-- What the calls on a link, on its parts and on descriptors answer.
-- Assumes nothing.
use Prim.Native.Nat.{ℕ}
use mathlib.Core.Path.{◌≡◌, refl}
use mathlib.Core.List.{List, [], ◌∷◌}
use lib.ListN.{drop}
use Rattle.wire.specs.Refusals.{too_wide, against_rule, past_text, descriptor_cut}
use Rattle.wire.specs.Verdict.{reached, verdict_of}
use Rattle.wire.specs.declared.verdict.Refusal.{Refusal}
use Rattle.wire.proofs.Verdicts.{reached-refused}
use Rattle.field.specs.Fields.{check_field}
use Rattle.field.specs.declared.Field.{Field}
use Rattle.field.proofs.Checks.{field-listed}
use Rattle.descriptors.specs.Reading.{cut_verdict, counted}
use Rattle.descriptors.proofs.Answers.{counted-refused}
use Rattle.descriptors.proofs.Loops.{cut-listed}
use Rattle.locator.specs.Reading.{locator_size, read_locator}
use Rattle.locator.specs.Checks.{check_fields, check_windows}
use Rattle.locator.specs.declared.DvbBinaryLocator.{DvbBinaryLocator}
use Rattle.locator.proofs.Listed.{locator_reading, size-listed, read-listed, fields-listed, windows-listed}
use Rattle.link.specs.Reading.{item_end, item_place, item_verdict, items_verdict, body_verdict}
use Rattle.link.specs.Answers.{link_read, fields_read, item_read, item_from}
use Rattle.link.specs.declared.LinkInfo.{LinkInfo}
use Rattle.link.specs.declared.Range.{Range}
use Rattle.link.proofs.Listed as link
use Rattle.link_walker.specs.Places.{body_places}
use Rattle.link_walker.proofs.Places.{places-refused}
use Rattle.link_items.specs.Steps.{stepped, item_after, number_after}
use Rattle.link_draft.specs.Checks.{check_range, link_checked}
use Rattle.link_draft.proofs.Listed.{link_checks, range_listed, checked-listed}
use Rattle.refusals.proofs.Given.{Given, OnList, given, on_list}
use Rattle.std.specs.Prelude.{Err}

-- ---- a field, descriptors

pub check-given : (f : Field) (n : ℕ) → Given (check_field f n)
check-given f n = given (too_wide ∷ []) _ refl (field-listed f n)

pub count-descriptors-given : (xs : List ℕ) (start n : ℕ) (r : Refusal) → counted (cut_verdict start (drop start xs)) n ≡ Err r → OnList r
count-descriptors-given xs start n r e = on_list (descriptor_cut ∷ []) r refl (cut-listed start (drop start xs) r (counted-refused _ n r e))

-- ---- a locator

pub locator-size-given : (xs : List ℕ) (r : Refusal) → locator_size xs ≡ Err r → OnList r
locator-size-given xs r e = on_list locator_reading r refl (size-listed xs r e)

pub read-locator-given : (xs : List ℕ) (r : Refusal) → read_locator xs ≡ Err r → OnList r
read-locator-given xs r e = on_list locator_reading r refl (read-listed xs r e)

pub check-fields-given : (l : DvbBinaryLocator) → Given (check_fields l)
check-fields-given l = given (too_wide ∷ []) _ refl (fields-listed l)

pub check-windows-given : (l : DvbBinaryLocator) → Given (check_windows l)
check-windows-given l = given (against_rule ∷ []) _ refl (windows-listed l)

-- ---- a link's body

pub check-body-given : (xs : List ℕ) → Given (body_verdict xs)
check-body-given xs = given link.body_reading _ refl (link.body-listed xs)

pub body-places-given : (xs : List ℕ) (r : Refusal) → body_places xs ≡ Err r → OnList r
body-places-given xs r e = check-body-given xs r (places-refused xs r e)

pub read-fields-given : (base reserved : ℕ) (xs : List ℕ) (r : Refusal) → fields_read base reserved xs ≡ Err r → OnList r
read-fields-given base reserved xs r e = on_list link.body_reading r refl (link.fields-listed base reserved xs r e)

pub read-link-given : (base reserved : ℕ) (xs : List ℕ) → Given (verdict_of (link_read base reserved xs))
read-link-given base reserved xs = given link.body_reading _ refl (link.link-listed base reserved xs)

pub read-item-given : (base : ℕ) (xs : List ℕ) (i : ℕ) (r : Refusal) → item_read base xs i ≡ Err r → OnList r
read-item-given base xs i r e = on_list link.item_reading r refl (link.item-read-listed base xs i r e)

pub past-item-given : (xs : List ℕ) (p : ℕ) (r : Refusal) → reached (item_verdict xs p) (item_end xs p) ≡ Err r → OnList r
past-item-given xs p r e = on_list link.step_reading r refl (link.item-listed xs p r (reached-refused _ _ r e))

pub past-items-given : (n : ℕ) (xs : List ℕ) (p : ℕ) (r : Refusal) → reached (items_verdict n xs p) (item_place n xs p) ≡ Err r → OnList r
past-items-given n xs p r e = on_list link.step_reading r refl (link.items-listed n xs p r (reached-refused _ _ r e))

pub item-from-given : (xs : List ℕ) (p : ℕ) (r : Refusal) → item_from xs p ≡ Err r → OnList r
item-from-given xs p r e = on_list link.step_reading r refl (link.step-listed xs p r e)

-- the item reader's steps, which are items by number
pub next-given : (xs : List ℕ) (n : ℕ) (r : Refusal) → item_read 0 xs n ≡ Err r → OnList r
next-given = read-item-given 0

pub step-from-given : (xs : List ℕ) (n : ℕ) (r : Refusal) → (stepped xs n).item ≡ Err r → OnList r
step-from-given = next-given

pub item-after-given : (xs : List ℕ) (n : ℕ) (r : Refusal) → item_after xs n ≡ Err r → OnList r
item-after-given xs n = next-given xs (number_after xs n)

-- ---- a link's record

pub check-range-given : (have : ℕ) (d : Range) → Given (check_range have d)
check-range-given have d = given (past_text ∷ []) _ refl (range_listed have d)

pub check-link-given : (t : List ℕ) (i : LinkInfo) → Given (link_checked t i).verdict
check-link-given t i = given link_checks _ refl (checked-listed t i)
