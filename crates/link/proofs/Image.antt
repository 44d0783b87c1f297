-- The record that a reading fills stands, with the text that the body is a part of, for the link that was read.
-- Assumes nothing.
use mathlib.Core.Path.{◌≡◌, refl, sym, ap, ap₂, ◌∙◌}
use Prim.Native.Nat.{ℕ, zero, suc, ◌+◌, ◌-◌, ◌≤◌}
use native.Mathlib.Omega.{arith}
use mathlib.Core.Bool.{Bool, true, false}
use mathlib.Core.List.{List, ◌∷◌, map}
use mathlib.Core.Option.{none, some}
use lib.ListN.{length, take, get_or, replicate}
use lib.Seq.{take_at}
use Rattle.wire.proofs.Lists.{part-part}
use Rattle.wire.specs.Choice.{pick}
use Rattle.wire.specs.Lists.{part}
use Rattle.length_field.specs.Lengths.{length_at}
use Rattle.wire.proofs.Verdicts.{then-fine}
use Rattle.link.specs.Syntax.{uri_due, locator_due}
use Rattle.link.specs.Reading.{type_at, uri_end_place, locator_in, locator_got, count_place, item_count, item_at, item_end, item_verdict, items_at, items_verdict, tail_place, body_verdict, link_at}
use Rattle.link.specs.Records.{no_item, filled, item_info, item_infos, uri_info, locator_held, locator_info, fields_at, info_at, item_of, uri_of, locator_of, link_of}
use Rattle.link.specs.declared.LinkItem.{LinkItem}
use Rattle.link.proofs.Items.{item-passed}
use Rattle.link.proofs.Filling.{length-infos}
use Rattle.link.proofs.Bounds.{body-known, front-known, rest-known}
use Rattle.locator.specs.declared.reading.LocatorRead.{LocatorRead}
use Rattle.std.specs.Prelude.{Err, None, Ok, Result, Some}
use Rattle.wire.specs.Verdict.{Fine}
use Rattle.wire.specs.declared.verdict.Refusal.{Refusal}

module _ (t : List ℕ) (base : ℕ) (xs : List ℕ) (e : part t base (length xs) ≡ xs) where
  there : (p m : ℕ) → p + m ≤ length xs → part t (base + p) m ≡ part xs p m
  there p m h = sym (part-part t base (length xs) p m h) ∙ ap (λ l. part l p m) e

  item-image : (p : ℕ) → item_end xs p ≤ length xs → item_of t (item_info base xs p) ≡ item_at xs p
  item-image p h = λ i. record { language = record { first = get_or xs p 0; second = get_or xs (p + 1) 0; third = get_or xs (p + 2) 0 }; text = there (p + 4) (get_or xs (p + 3) 0) h i }

  items-image : (n p : ℕ) → items_verdict n xs p ≡ Fine → map (item_of t) (item_infos base n xs p) ≡ items_at n xs p
  unfolding item_infos items_at items_verdict
  items-image zero p v = refl
  items-image (suc n) p v =
      let two = then-fine (item_verdict xs p) _ v in
      ap₂ ◌∷◌ (item-image p (item-passed xs p two.0)) (items-image n (item_end xs p) two.1)

  uri-image : uri_end_place xs ≤ length xs → uri_of t (uri_info base xs) ≡ pick (uri_due (type_at xs)) (some (part xs 5 (get_or xs 4 0))) none
  uri-image h = go (uri_due (type_at xs)) h
    where
      go : (b : Bool) → pick b (5 + get_or xs 4 0) 4 ≤ length xs
          → uri_of t (pick b (Some (record { start = base + 5; length = get_or xs 4 0 })) None)
          ≡ pick b (some (part xs 5 (get_or xs 4 0))) none
      go true h = ap some (there 5 (get_or xs 4 0) h)
      go false h = refl

  locator-image : locator_of (locator_info xs) ≡ pick (locator_due (type_at xs)) (locator_got (locator_in xs)) none
  locator-image = go (locator_due (type_at xs)) (locator_in xs)
    where
      go : (b : Bool) (a : Result LocatorRead Refusal) → locator_of (pick b (locator_held a) None) ≡ pick b (locator_got a) none
      go true (Ok got) = refl
      go true (Err r) = refl
      go false a = refl

  -- the whole record
  pub info-image : (r : ℕ) → body_verdict xs ≡ Fine → link_of t (info_at base r xs) ≡ link_at r xs
  unfolding link_of info_at fields_at link_at
  info-image r v =
      let b = body-known xs v in
      let f = front-known xs b.0 in
      let q = rest-known xs b.1 in
      let n : ℕ = item_count xs in
      let is : List LinkItem = item_infos base n xs (count_place xs + 1) in
      let counted : take n (filled is) ≡ is = take_at is (replicate (63 - length is) no_item) n (length-infos base n xs (count_place xs + 1)) in
      let items : map (item_of t) (take n (filled is)) ≡ items_at n xs (count_place xs + 1) = ap (map (item_of t)) counted ∙ items-image n (count_place xs + 1) q.0 in
      let tail : part t (base + (tail_place xs + 2)) (length_at xs (tail_place xs)) ≡ part xs (tail_place xs + 2) (length_at xs (tail_place xs)) = there (tail_place xs + 2) (length_at xs (tail_place xs)) (omega (arith, q.1)) in
      rw (uri-image f.uri, locator-image, items, tail)
