-- A walk by places lists a body's items by number. The body is the end of a slice, from `base` on; ranges and places are
-- counted from the slice's first byte.
-- Assumes nothing.
use mathlib.Core.Path.{◌≡◌, refl, sym, ap, ◌∙◌}
use Prim.Native.Nat.{ℕ, ◌+◌, ◌≤◌, ◌<◌}
use native.Mathlib.Omega.{arith}
use mathlib.Core.List.{List}
use lib.ListN.{length, take, drop, get_or, length-take, length-drop}
use lib.Seq.{take-add, take_all, drop_at, get_or-drop, length-take-le}
use Rattle.wire.specs.Lists.{part}
use Rattle.link.specs.Syntax.{item_head, language_length}
use Rattle.link.specs.Reading.{items_place, item_count, text_size, item_end, item_place, item_verdict, body_verdict}
use Rattle.link.specs.Records.{item_info}
use Rattle.link.specs.Answers.{item_in, item_read, fields_read, last_place, told, step_answer, item_from, got_fields, got_step}
use Rattle.link.specs.declared.LinkFields.{LinkFields}
use Rattle.link.specs.declared.LinkItem.{LinkItem}
use Rattle.link.proofs.Items.{item-pass}
use Rattle.link.proofs.Filling.{place-snoc}
use Rattle.link.proofs.Bounds.{body-known, front-known, rest-known, item-within, item-got}
use Rattle.link.proofs.Answers.{fields_had}
use Rattle.std.specs.Prelude.{Ok}
use Rattle.wire.specs.Verdict.{Fine}

-- all of a slice that ranges can tell
pub told-all : (xs : List ℕ) → length xs ≤ last_place → told xs ≡ xs
unfolding told
told-all xs h = take_all last_place xs h

-- the place of item i of the body xs
abbrev pub place_from : ℕ → List ℕ → ℕ → ℕ
place_from base xs i = base + item_place i xs (items_place xs)

-- item i, asked for by its number in the body, and by its place in the slice: the answer there has the place of the next one
pub record Listed (ys xs : List ℕ) (base i : ℕ) : Type 0 where
  pub here : LinkItem
  pub numbered : item_read base xs i ≡ Ok here
  pub placed : item_from ys (place_from base xs i) ≡ got_step here (place_from base xs (i + 1))

-- the body xs is what the slice ys has from base on
module _ (ys xs : List ℕ) (base : ℕ) (e : drop base ys ≡ xs) (h : base ≤ length ys) where
  at : (i : ℕ) → get_or ys (base + i) 0 ≡ get_or xs i 0
  at i = rw (← e, get_or-drop)

  whole : length ys ≡ base + length xs
  whole = omega (arith, ap length e, length-drop base ys)

  size : (p : ℕ) → text_size ys (base + p) ≡ text_size xs p
  size p =
      let a : base + p + language_length ≡ base + (p + language_length) = omega arith in
      ap (λ k. get_or ys k 0) a ∙ at (p + language_length)

  end : (p : ℕ) → item_end ys (base + p) ≡ base + item_end xs p
  end p = omega (arith, size p)

  info : (p : ℕ) → item_info 0 ys (base + p) ≡ item_info base xs p
  info p =
      let b : base + p + 1 ≡ base + (p + 1) = omega arith in
      let c : base + p + 2 ≡ base + (p + 2) = omega arith in
      let s : 0 + (base + p + item_head) ≡ base + (p + item_head) = omega arith in
      rw (size p, s, b, c, at (p + 1), at (p + 2), at p)

  pub listed : (i : ℕ) → length ys ≤ last_place → body_verdict xs ≡ Fine → i < item_count xs → Listed ys xs base i
  unfolding item_from step_answer
  listed i l v k =
      let b = body-known xs v in
      let first : items_place xs ≤ length xs = omega (arith, (front-known xs b.0).within) in
      let p : ℕ = item_place i xs (items_place xs) in
      let within : item_end ys (base + p) ≤ length ys = omega (arith, item-within (item_count xs) i xs (items_place xs) k first (rest-known xs b.1).0, end p, whole) in
      record {
        here = item_in base xs i;
        numbered = sym (item-got base xs i v k);
        placed = rw (told-all ys l, item-pass ys (base + p) within, info p, end p, place-snoc i xs (items_place xs));
      }

-- the same of a body of n bytes that stands in a longer slice: what is walked over is the slice up to the body's end
pub up_to : (s : List ℕ) (base n : ℕ) → base + n ≤ length s → drop base (take (base + n) s) ≡ part s base n
up_to s base n h = ap (drop base) (take-add base n s) ∙ drop_at (take base s) (part s base n) base (length-take-le base s (omega arith))

pub listed_in : (s : List ℕ) (base n i : ℕ) → base + n ≤ length s → base + n ≤ last_place → body_verdict (part s base n) ≡ Fine → i < item_count (part s base n)
    → Listed (take (base + n) s) (part s base n) base i
listed_in s base n i h l v k =
    let m = length-take-le (base + n) s h in
    listed (take (base + n) s) (part s base n) base (up_to s base n h) (omega arith) i (omega arith) v k

-- the first place is the one that is answered with a link's fields
pub first-place : (base r : ℕ) (xs : List ℕ) (k : LinkFields) (p : ℕ) → fields_read base r xs ≡ got_fields k p → p ≡ place_from base xs 0
first-place base r xs k p e = (fields_had base r xs k p e).place
