-- The laws of steps: an item moves the reader on by one, a refusal leaves it. So behind n steps from the start number n is
-- next, as long as each step answers an item; step n answers the item with number n; and behind a refusal all steps answer
-- the same.
-- Assumes nothing.
use mathlib.Core.Path.{◌≡◌, refl, sym, ap, ◌∙◌, subst}
use Prim.Native.Nat.{ℕ, zero, suc, ◌+◌, ◌-◌, ◌≤◌, ◌<◌}
use native.Mathlib.Omega.{arith}
use native.Mathlib.Nat.{zero-add, suc-add}
use native.Mathlib.Numerals.{add-one}
use mathlib.Core.List.{List, ◌∷◌, map}
use lib.ListN.{length, take, replicate}
use lib.Seq.{take_at}
use denote.Ref.{Bor}
use Rattle.field.specs.Fields.{number_items}
use Rattle.wire.specs.Refusals.{no_such_number}
use Rattle.wire.specs.declared.verdict.Refusal.{Refusal}
use Rattle.wire.proofs.Verdicts.{then-fine, passed-leb}
use Rattle.link.specs.Reading.{item_count, item_end, item_place, items_place, body_verdict}
use Rattle.link.specs.Records.{no_item, filled, items_of, fields_at, info_at, item_infos}
use Rattle.link.specs.Answers.{item_row, item_rows, item_read}
use Rattle.link.specs.declared.LinkItem.{LinkItem}
use Rattle.link.proofs.Filling.{length-infos}
use Rattle.link.proofs.Bounds.{item-had, item-got, item-21, item-stop}
use Rattle.link_items.specs.Steps.{moved_from, moved_to, moved_on, number_after, reader_after, item_after, answers}
use Rattle.std.specs.Prelude.{Err, Ok}
use Rattle.wire.specs.Verdict.{Fine}

-- ---- one step

pub moved-got : (base : ℕ) (xs : List ℕ) (n : ℕ) (i : LinkItem) → item_read base xs n ≡ Ok i → moved_from base xs n ≡ n + 1
unfolding moved_from
moved-got base xs n i e = rw e

pub moved-not : (base : ℕ) (xs : List ℕ) (n : ℕ) (r : Refusal) → item_read base xs n ≡ Err r → moved_from base xs n ≡ n
unfolding moved_from
moved-not base xs n r e = rw e

-- an item has a number below the count
pub got-below : (base : ℕ) (xs : List ℕ) (n : ℕ) (i : LinkItem) → item_read base xs n ≡ Ok i → n < item_count xs
unfolding item_rows item_row
got-below base xs n i e = passed-leb (item_count xs) n _ _ _ (then-fine (body_verdict xs) _ (item-had base xs n i e).0).1

-- ---- steps from the start

-- a reader keeps its slice, and the number that the steps lead to is next
pub reader-number : (s : Bor (List ℕ)) (n : ℕ) → reader_after s n ≡ record { body = s; next = number_after s.now n }
unfolding reader_after number_after
reader-number s zero = refl
reader-number s (suc n) = ap moved_on (reader-number s n)

-- an item at the number that n steps lead to: one more step leads to the number behind it
pub number-on : (xs : List ℕ) (n : ℕ) (i : LinkItem) → number_after xs n ≡ n → item_read 0 xs n ≡ Ok i → number_after xs (n + 1) ≡ n + 1
unfolding number_after
number-on xs n i h e =
    let next : moved_to xs n ≡ suc n = omega (arith, moved-got 0 xs n i e) in
    rw (add-one n, h) next

-- behind a refused step the number stays, so every later step answers the same
pub number-stays : (xs : List ℕ) (n k : ℕ) (r : Refusal) → item_after xs n ≡ Err r → number_after xs (k + n) ≡ number_after xs n
unfolding number_after
number-stays xs n zero r e = rw (zero-add n)
number-stays xs n (suc k) r e = rw (suc-add k n, number-stays xs n k r e) (moved-not 0 xs (number_after xs n) r e)

pub refused-stays : (xs : List ℕ) (n m : ℕ) (r : Refusal) → n ≤ m → item_after xs n ≡ Err r → item_after xs m ≡ Err r
refused-stays xs n m r h e =
    let k : m ≡ m - n + n = omega arith in
    ap (item_after xs) k ∙ (ap (item_read 0 xs) (number-stays xs n (m - n) r e) ∙ e)

-- the items of a body that is accepted, by number: n steps lead to number n, and the step behind them answers item n
pub number-steps : (xs : List ℕ) (n : ℕ) → body_verdict xs ≡ Fine → n ≤ item_count xs → number_after xs n ≡ n
unfolding number_after
number-steps xs zero v h = refl
number-steps xs (suc n) v h =
    subst (λ m. number_after xs m ≡ m) (add-one n) (number-on xs n _ (number-steps xs n v (omega arith)) (sym (item-got 0 xs n v (omega arith))))

pub step-number : (xs : List ℕ) (n : ℕ) → body_verdict xs ≡ Fine → n ≤ item_count xs → item_after xs n ≡ item_read 0 xs n
step-number xs n v h = ap (item_read 0 xs) (number-steps xs n v h)

-- past the last of them 21, with the count as the number, however many steps are taken
pub steps-end : (xs : List ℕ) (n : ℕ) → body_verdict xs ≡ Fine → item_count xs ≤ n → item_after xs n ≡ Err (record { number = no_such_number; first = item_count xs; second = item_count xs })
steps-end xs n v h =
    refused-stays xs (item_count xs) n _ h
    (step-number xs (item_count xs) v (omega arith) ∙ sym (item-21 0 xs (item_count xs) v (omega arith)))

-- a body that is refused: its refusal at every step
pub steps-refused : (xs : List ℕ) (n : ℕ) (r : Refusal) → body_verdict xs ≡ Err r → item_after xs n ≡ Err r
steps-refused xs n r v = sym (item-stop 0 xs (number_after xs n) r v)

-- ---- a run of steps

item-next : (xs : List ℕ) (n c : ℕ) → item_end xs (item_place n xs c) ≡ item_place (n + 1) xs c
item-next xs zero c = refl
item-next xs (suc n) c = item-next xs n (item_end xs c) ∙ ap (λ m. item_place m xs c) (sym (suc-add n 1))

-- n steps from item p of a body that is accepted answer the n items of its record from there on, in their order
pub answers-items : (n : ℕ) (xs : List ℕ) (p : ℕ) → body_verdict xs ≡ Fine → p + n ≤ item_count xs → answers n xs p ≡ map Ok (item_infos 0 n xs (item_place p xs (items_place xs)))
unfolding answers item_infos
answers-items zero xs p v h = refl
answers-items (suc n) xs p v h =
    let got = sym (item-got 0 xs p v (omega arith)) in
    let more = ap (answers n xs) (moved-got 0 xs p _ got) ∙ answers-items n xs (p + 1) v (omega arith) in
    λ j. got j ∷ (more ∙ ap (λ q. map Ok (item_infos 0 n xs q)) (sym (item-next xs p (items_place xs)))) j

-- and as many steps as it has items answer all the items that the link's record holds
pub answers-all : (xs : List ℕ) (r : ℕ) → body_verdict xs ≡ Fine → answers (item_count xs) xs 0 ≡ map Ok (items_of (info_at 0 r xs))
unfolding info_at fields_at
answers-all xs r v =
    let n : ℕ = item_count xs in
    let is : List LinkItem = item_infos 0 n xs (items_place xs) in
    let counted : take n (filled is) ≡ is = take_at is (replicate (number_items.widest - length is) no_item) n (length-infos 0 n xs (items_place xs)) in
    answers-items n xs 0 v (omega arith) ∙ ap (map Ok) (sym counted)
