-- Which numbers a reading of a link's body can answer at all: 6 to 16, of an item by number also 21, of an item by its place 12 and 13.
-- Assumes nothing.
use Prim.Native.Nat.{ℕ, zero, suc}
use mathlib.Core.Path.{◌≡◌, refl}
use mathlib.Core.Bool.{Bool, true, false}
use mathlib.Core.List.{List, [], ◌∷◌, ◌++◌}
use native.Mathlib.Omega.{arith}
use lib.ListN.{length, drop}
use Rattle.wire.specs.Choice.{pick}
use Rattle.wire.specs.Refusals.{body_too_short, uri_length_cut, uri_cut, no_locator, locator_cut, item_count_cut, item_cut, text_cut, icon_cut, descriptors_too_long, link_slack, no_such_number}
use Rattle.wire.specs.Verdict.{refuse, ◌▷◌, Fine, Verdict, verdict_of}
use Rattle.wire.specs.declared.verdict.Refusal.{Refusal}
use Rattle.wire.proofs.Among.{listed, Among, among-fine, among-row, among_then, among-more}
use Rattle.length_field.proofs.Listed.{last-listed}
use Rattle.locator.specs.Reading.{read_locator}
use Rattle.locator.proofs.Listed.{locator_reading, read-listed}
use Rattle.link.specs.Syntax.{uri_due, locator_due}
use Rattle.link.specs.Reading.{type_at, uri_end_place, locator_said, items_place, item_count, item_end, tail_place, uri_verdict, locator_rows, count_verdict, item_verdict, items_verdict, front_verdict, rest_verdict, body_verdict}
use Rattle.link.specs.Answers.{link_answer, link_read, fields_read, item_row, item_rows, item_answer, item_in, item_read, told, step_answer, item_from}
use Rattle.link.specs.declared.LinkInfo.{LinkInfo}
use Rattle.link.specs.declared.LinkItem.{LinkItem}
use Rattle.link.proofs.Answers.{fields-not}
use Rattle.locator.specs.declared.reading.LocatorRead.{LocatorRead}
use Rattle.std.specs.Prelude.{Err, Ok, Result}

abbrev pub body_reading : List ℕ
body_reading =
    body_too_short
    ∷ uri_length_cut
    ∷ uri_cut
    ∷ no_locator
    ∷ locator_cut
    ∷ item_count_cut
    ∷ item_cut
    ∷ text_cut
    ∷ icon_cut
    ∷ descriptors_too_long
    ∷ link_slack
    ∷ []

-- of an item that is looked up by number, and of one at a place
abbrev pub item_reading : List ℕ
item_reading = body_reading ++ no_such_number ∷ []

abbrev pub step_reading : List ℕ
step_reading = item_cut ∷ text_cut ∷ []

-- ---- the body

-- a part that is there or not
part-listed : (b : Bool) (v : Verdict) → Among body_reading v → Among body_reading (pick b v Fine)
part-listed true v p = p
part-listed false v p = among-fine body_reading

said-listed : (ys : List ℕ) → Among body_reading (locator_said (read_locator ys))
said-listed ys = among-more locator_reading body_reading _ refl (by (read_locator ys) (read-listed ys))
  where
    by : (a : Result LocatorRead Refusal) → ((r : Refusal) → a ≡ Err r → listed r.number locator_reading ≡ true) → Among locator_reading (locator_said a)
    by (Ok got) p = among-fine locator_reading
    by (Err s) p = λ r e. p r (cc)

pub item-listed : (xs : List ℕ) (p : ℕ) → Among step_reading (item_verdict xs p)
unfolding item_verdict
item-listed xs p = among_then step_reading _ _ (among-row step_reading _ item_cut _ _ refl) (among-row step_reading _ text_cut _ _ refl)

pub items-listed : (n : ℕ) (xs : List ℕ) (p : ℕ) → Among step_reading (items_verdict n xs p)
unfolding items_verdict
items-listed zero xs p = among-fine step_reading
items-listed (suc n) xs p = among_then step_reading _ _ (item-listed xs p) (items-listed n xs (item_end xs p))

pub body-listed : (xs : List ℕ) → Among body_reading (body_verdict xs)
unfolding body_verdict front_verdict uri_verdict locator_rows count_verdict rest_verdict
body-listed xs =
    among_then body_reading _ _
    (among_then body_reading _ _ (row _ body_too_short _ _ refl)
    (among_then body_reading _ _ (part-listed (uri_due (type_at xs)) _ (among_then body_reading _ _ (row _ uri_length_cut _ _ refl) (row _ uri_cut _ _ refl)))
    (among_then body_reading _ _ (part-listed (locator_due (type_at xs)) _ (among_then body_reading _ _ (row _ no_locator _ _ refl) (said-listed (drop (uri_end_place xs) xs)))) (row _ item_count_cut _ _ refl))))
    (among_then body_reading _ _ (among-more step_reading body_reading _ refl (items-listed (item_count xs) xs (items_place xs)))
    (last-listed body_reading icon_cut descriptors_too_long refl refl link_slack refl xs (length xs) (tail_place xs)))
  where
    row : (b : Bool) (n f g : ℕ) → listed n body_reading ≡ true → Among body_reading (refuse b n f g)
    row = among-row body_reading

-- ---- the answers

pub link-listed : (base r : ℕ) (xs : List ℕ) → Among body_reading (verdict_of (link_read base r xs))
unfolding link_read link_answer
link-listed base r xs = by (body_verdict xs) _ (body-listed xs)
  where
    by : (v : Verdict) (k : LinkInfo) → Among body_reading v → Among body_reading (verdict_of (link_answer v k))
    by (Ok _) k p = p
    by (Err q) k p = p

pub fields-listed : (base r : ℕ) (xs : List ℕ) (q : Refusal) → fields_read base r xs ≡ Err q → listed q.number body_reading ≡ true
fields-listed base r xs q e = body-listed xs q (fields-not base r xs q e)

-- of any verdict that an item's answer is made by
pub item-answer-listed : (ns : List ℕ) (v : Verdict) (k : LinkItem) → Among ns v → (r : Refusal) → item_answer v k ≡ Err r → listed r.number ns ≡ true
unfolding item_answer
item-answer-listed ns (Ok _) k p r e = let z : ◌≡◌ {A = ℕ} 0 1 = cc in absurd (omega arith)
item-answer-listed ns (Err q) k p r e = p r (cc)

pub number-listed : (xs : List ℕ) (i : ℕ) → Among (no_such_number ∷ []) (item_row xs i)
unfolding item_row
number-listed xs i = among-row (no_such_number ∷ []) _ no_such_number _ _ refl

pub item-read-listed : (base : ℕ) (xs : List ℕ) (i : ℕ) (r : Refusal) → item_read base xs i ≡ Err r → listed r.number item_reading ≡ true
unfolding item_read item_rows
item-read-listed base xs i =
    item-answer-listed item_reading (body_verdict xs ▷ item_row xs i) (item_in base xs i)
    (among_then item_reading _ _ (among-more body_reading item_reading _ refl (body-listed xs)) (among-more (no_such_number ∷ []) item_reading _ refl (number-listed xs i)))

pub step-listed : (xs : List ℕ) (p : ℕ) (r : Refusal) → item_from xs p ≡ Err r → listed r.number step_reading ≡ true
unfolding item_from step_answer
step-listed xs p r e = by (item_verdict (told xs) p) _ _ (item-listed (told xs) p) e
  where
    by : (v : Verdict) (k : LinkItem) (q : ℕ) → Among step_reading v → step_answer v k q ≡ Err r → listed r.number step_reading ≡ true
    by (Ok _) k q a e = let z : ◌≡◌ {A = ℕ} 0 1 = cc in absurd (omega arith)
    by (Err s) k q a e = a r (cc)
