-- The items of a record, filled one by one from a body that was checked: what a turn of the loop knows and leaves.
-- Assumes nothing.
use mathlib.Core.Path.{◌≡◌, refl, sym, ap, ◌∙◌}
use Prim.Native.Nat.{ℕ, ◌+◌, ◌-◌, ◌^◌, ◌≤◌, ◌<◌}
use native.Mathlib.Omega.{arith}
use mathlib.Core.List.{List}
use lib.ListN.{length, set, replicate}
use Rattle.field.specs.Fields.{number_items}
use Rattle.wire.specs.Lists.{Bytes}
use Rattle.link.specs.Syntax.{item_head}
use Rattle.link.specs.Reading.{items_place, item_count, item_end, item_place, items_verdict, body_verdict}
use Rattle.link.specs.Records.{no_item, filled, item_info, item_infos}
use Rattle.link.specs.Answers.{last_place}
use Rattle.link.specs.declared.LinkItem.{LinkItem}
use Rattle.link.proofs.Bounds.{farthest, body-known, rest-known, item-far}
use Rattle.link.proofs.Filling.{filled_more, place-snoc}
use Rattle.link.proofs.Turns.{items-turn}
use Rattle.wire.specs.Verdict.{Fine}

-- i of n items are filled in, the first of which is at q; the next one is at p
pub record Filled (base : ℕ) (xs : List ℕ) (n q : ℕ) (is : List LinkItem) (p i : ℕ) : Type 0 where
  pub some : i ≤ n
  pub few : n ≤ number_items.widest
  pub near : (j : ℕ) → j ≤ n → item_place j xs q ≤ farthest
  pub place : p ≡ item_place i xs q
  pub left : items_verdict (n - i) xs p ≡ Fine
  pub items : is ≡ filled (item_infos base i xs q)

pub filled_none : (base : ℕ) (xs : List ℕ) (n q : ℕ) (l : LinkItem) → Bytes xs → body_verdict xs ≡ Fine → n ≡ item_count xs → q ≡ items_place xs → l ≡ no_item
    → Filled base xs n q (replicate number_items.widest l) q 0
unfolding item_infos
filled_none base xs n q l b v c f y =
    let z : n - 0 ≡ item_count xs = omega (arith, c) in
    record {
      some = omega arith;
      few = omega (arith, c);
      near = λ j h. rw f (item-far xs b j (omega (arith, c, h)));
      place = refl;
      left = rw (z, f) (rest-known xs (body-known xs v).1).0;
      items = ap (replicate number_items.widest) y;
    }

module _ (base : ℕ) (xs : List ℕ) (n q : ℕ) (is : List LinkItem) (p i : ℕ) (s : Filled base xs n q is p i) (h : i < n) where
  turn : (item_end xs p ≤ length xs) × (items_verdict (n - i - 1) xs (item_end xs p) ≡ Fine)
  turn = items-turn (n - i) xs p (omega arith) s.left

  pub filled_within : base < 2 ^ 16 → (p + item_head ≤ length xs) × (base + (p + item_head) ≤ last_place)
  filled_within b = (omega (arith, turn.0), omega (arith, s.near i s.some, s.place))

  pub filled-turn : (l : LinkItem) (e : ℕ) → l ≡ item_info base xs p → e ≡ item_end xs p → Filled base xs n q (set is i l) e (i + 1)
  filled-turn l e y z =
      let m : n - (i + 1) ≡ n - i - 1 = omega arith in
      record {
        some = omega arith;
        few = s.few;
        near = s.near;
        place = z ∙ ap (item_end xs) s.place ∙ sym (place-snoc i xs q);
        left = rw (m, z) turn.1;
        items = rw (y, s.items, s.place) (filled_more base i xs q (omega (arith, s.few)));
      }

-- all of them
pub filled-all : (base : ℕ) (xs : List ℕ) (n q : ℕ) (is : List LinkItem) (p i : ℕ) → Filled base xs n q is p i → n ≤ i → is ≡ filled (item_infos base n xs q)
filled-all base xs n q is p i s h = let e : i ≡ n = omega (arith, s.some) in rw e at s.items
