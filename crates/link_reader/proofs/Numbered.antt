-- What the calls for one item answer, by number and by place, over plain lists: the code's returns cite these.
-- Assumes nothing.
use mathlib.Core.Path.{◌≡◌, sym, ap, ◌∙◌}
use Prim.Native.Nat.{ℕ, ◌+◌, ◌^◌, ◌≤◌, ◌<◌}
use native.Mathlib.Omega.{arith}
use mathlib.Core.List.{List}
use lib.ListN.{length, get_or, length-take}
use Rattle.field.specs.Fields.{low, number_items}
use Rattle.wire.specs.Lists.{Bytes}
use Rattle.wire.specs.Refusals.{no_such_number}
use Rattle.wire.specs.Verdict.{reached, Fine}
use Rattle.wire.specs.declared.verdict.Refusal.{Refusal}
use Rattle.wire.proofs.Verdicts.{reached-at, reached-refused}
use Rattle.link.specs.Syntax.{item_head, count_length}
use Rattle.link.specs.Reading.{count_place, items_place, item_count, item_end, item_place, item_verdict, items_verdict, body_verdict}
use Rattle.link.specs.Records.{item_info}
use Rattle.link.specs.Answers.{item_read, last_place, told, step_answer, item_from, got_step}
use Rattle.link.specs.declared.LinkItem.{LinkItem}
use Rattle.link.proofs.Items.{item-passed}
use Rattle.link.proofs.Bounds.{items-before, item-within, body-known, front-known, rest-known, item-far, item-21, item-got}
use Rattle.std.specs.Prelude.{Err, Ok, Result}

-- ---- by number: n is what the code counted at p, and i the number that is asked for

module _ (xs : List ℕ) (p n i : ℕ) (v : body_verdict xs ≡ Fine) (e : p ≡ count_place xs) (k : n ≡ low number_items (get_or xs p 0)) where
  count_is : n ≡ item_count xs
  count_is = rw e at k

  pub count-within : p + count_length ≤ length xs
  count-within = omega (arith, (front-known xs (body-known xs v).0).within, e)

  pub numbered-21 : (base : ℕ) → n ≤ i → Err (record { number = no_such_number; first = i; second = n }) ≡ item_read base xs i
  numbered-21 base h = rw count_is (item-21 base xs i v (rw count_is at h))

  module _ (h : i < n) (a : Result ℕ Refusal) (w : a ≡ reached (items_verdict i xs (p + count_length)) (item_place i xs (p + count_length))) where
    below : i < item_count xs
    below = rw count_is at h

    there : p + count_length ≡ items_place xs
    there = omega (arith, e)

    checked : items_verdict (item_count xs) xs (items_place xs) ≡ Fine
    checked = (rest-known xs (body-known xs v).1).0

    pub numbered-never : (r : Refusal) → a ≡ Err r → ⊥
    numbered-never r q =
        let f = items-before (item_count xs) i xs (items_place xs) (omega (arith, below)) checked in
        let g : items_verdict i xs (items_place xs) ≡ Err r = rw there at (reached-refused _ _ _ (sym w ∙ q)) in
        let z : ◌≡◌ {A = ℕ} 0 1 = cc in
        omega arith

    module _ (m : ℕ) (q : a ≡ Ok m) where
      place_is : m ≡ item_place i xs (items_place xs)
      place_is = sym (rw there at (reached-at _ _ _ (sym w ∙ q)).1)

      pub numbered_within : (base : ℕ) → Bytes xs → base < 2 ^ 16 → (m + item_head ≤ length xs) × (base + (m + item_head) ≤ last_place)
      numbered_within base b l =
          let first : items_place xs ≤ length xs = omega (arith, count-within, there) in
          let c = item-within (item_count xs) i xs (items_place xs) below first checked in
          let d = item-far xs b i (omega (arith, below)) in
          rw place_is (omega (arith, c), omega (arith, d))

      pub numbered-got : (base : ℕ) (l : LinkItem) → l ≡ item_info base xs m → Ok l ≡ item_read base xs i
      numbered-got base l y = rw (y, place_is) (item-got base xs i v below)

-- ---- by place: t is what ranges can tell of the slice

told-short : (xs : List ℕ) → length (told xs) ≤ last_place
unfolding told
told-short xs = omega (arith, length-take last_place xs)

module _ (xs t : List ℕ) (e : t ≡ told xs) (p : ℕ) (a : Result ℕ Refusal) (w : a ≡ reached (item_verdict t p) (item_end t p)) where
  pub step-not : (r : Refusal) → a ≡ Err r → Err r ≡ item_from xs p
  unfolding item_from step_answer
  step-not r q = rw (rw e at (reached-refused _ _ _ (sym w ∙ q)))

  module _ (n : ℕ) (q : a ≡ Ok n) where
    passed : item_verdict t p ≡ Fine
    passed = (reached-at _ _ _ (sym w ∙ q)).0

    end_is : item_end t p ≡ n
    end_is = (reached-at _ _ _ (sym w ∙ q)).1

    pub step-within : (p + item_head ≤ length t) × ((p + item_head ≤ last_place) × (n ≤ last_place))
    step-within =
        let c = item-passed t p passed in
        let s = told-short xs in
        let l = ap length e in
        (omega arith, (omega arith, omega (arith, end_is)))

    pub step-got : (i : LinkItem) → i ≡ item_info 0 t p → got_step i n ≡ item_from xs p
    unfolding item_from step_answer
    step-got i y = rw (rw e at passed, y, ← end_is, e)
