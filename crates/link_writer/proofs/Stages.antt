-- Stages of the writing, one behind the other: a part with room for it and without, the locator, the items one by one, and
-- the bytes before the descriptors.
-- Assumes nothing.
use Prim.Native.Nat.{ℕ, ◌+◌, ◌*◌, ◌%◌, ◌≤◌, ◌<◌}
use mathlib.Core.Path.{◌≡◌, refl, sym, ap, ◌∙◌}
use mathlib.Core.Bool.{Bool, false}
use mathlib.Core.List.{List, [], ◌∷◌, ◌++◌, append_assoc, append-nil}
use native.Mathlib.Omega.{arith}
use lib.ListN.{length, take, drop, get_or, length-append, drop_of_length-le}
use borrow.Author.Tests.{leb-false}
use Rattle.wire.specs.Choice.{bit}
use Rattle.length_field.specs.Lengths.{longest, widest_beside, length_bytes}
use Rattle.byte_stores.specs.Stores.{room_at, put_at}
use Rattle.field.specs.Fields.{descriptor_length, icon_id, low}
use Rattle.locator.specs.Syntax.{locator_bytes}
use Rattle.locator.specs.Writing.{narrowed, written_locator}
use Rattle.locator.specs.declared.DvbBinaryLocator.{DvbBinaryLocator}
use Rattle.locator.specs.declared.writing.LocatorBytes.{LocatorBytes}
use Rattle.locator.proofs.Spelling.{bit_le}
use Rattle.locator.proofs.Written.{written-take}
use Rattle.link.specs.declared.LinkItem.{LinkItem}
use Rattle.link.specs.declared.LinkFields.{LinkFields}
use Rattle.link_draft.specs.Writing.{item_parts, items_parts, tail_parts, put_all}
use Rattle.std.proofs.lemmas.List.{drop_more}
use Rattle.link_draft.proofs.Parts.{all-length, all_past}
use Rattle.link_writer.specs.Stages.{Puts}

-- the parts that are left: the items from i on, and the tail
abbrev pub left : List ℕ → List LinkItem → LinkFields → ℕ → List (List ℕ)
left t items f i = items_parts t (drop i (take f.number_items items)) ++ tail_parts t f

pub puts_none : (xs : List ℕ) (at : ℕ) → Puts xs at [] xs at
puts_none xs at = record { rest = λ qs. refl }

pub puts_then : {xs ys zs : List ℕ} {at p q : ℕ} {ps qs : List (List ℕ)} → Puts xs at ps ys p → Puts ys p qs zs q → Puts xs at (ps ++ qs) zs q
puts_then {xs} {at = at} {ps = ps} {qs = qs} f g = record { rest = λ rs. g.rest rs ∙ f.rest (qs ++ rs) ∙ ap (put_all xs at) (sym (append_assoc ps qs rs)) }

-- the buffer itself, once nothing follows
pub puts-all : {xs ys : List ℕ} {at p : ℕ} {ps : List (List ℕ)} → Puts xs at ps ys p → ys ≡ put_all xs at ps
puts-all {xs} {at = at} {ps = ps} f = f.rest [] ∙ ap (put_all xs at) (append-nil ps)

pub puts-length : {xs ys : List ℕ} {at p : ℕ} {ps : List (List ℕ)} → Puts xs at ps ys p → length ys ≡ length xs
puts-length {xs} {at = at} {ps = ps} f = ap length (puts-all f) ∙ all-length xs at ps

-- ---- one part

module _ (xs : List ℕ) (at : ℕ) (p ys : List ℕ) (e : ys ≡ put_at xs at p) where
  pub puts_one : Puts xs at (p ∷ []) ys (at + length p)
  puts_one = record { rest = λ qs. ap (λ zs. put_all zs (at + length p) qs) e }

  -- from past the end nothing more is written
  pub puts-full : room_at xs at p ≡ false → Puts xs at (p ∷ []) ys (length ys + 1)
  puts-full full =
      let same : ys ≡ xs = e ∙ rw full in
      let past : length ys < at + length p = omega (arith, ap length same, leb-false (at + length p) (length xs) full) in
      record {
        rest = λ qs. all_past ys (length ys + 1) qs (omega arith) ∙ sym (all_past ys (at + length p) qs past) ∙ ap (λ zs. put_all zs (at + length p) qs) e;
      }

-- ---- the locator: as many of its bytes as it has

module _ (l : DvbBinaryLocator) (w : LocatorBytes) (e : w ≡ written_locator l) where
  pub locator-held : w.length ≤ length w.bytes
  unfolding written_locator
  locator-held = rw (e, length-append) (omega arith)

  pub locator-taken : take w.length w.bytes ≡ locator_bytes (narrowed l)
  locator-taken = ap (λ (v : LocatorBytes). take v.length v.bytes) e ∙ written-take l

-- ---- the two bytes before the descriptors: no number loses a bit in them that its field has

pub tail-head : (d : Bool) (i n flag icon : ℕ) (bs : List ℕ) → flag ≡ bit d → icon ≡ low icon_id i → bs ≡ length_bytes ((flag * 8 + icon) % (widest_beside + 1)) (n % (longest + 1))
    → bs ≡ length_bytes (bit d * 8 + low icon_id i) (low descriptor_length n)
tail-head d i n flag icon bs f g e =
    let beside : (flag * 8 + icon) % (widest_beside + 1) ≡ bit d * 8 + low icon_id i = omega (arith, bit_le d) in
    e ∙ rw beside

-- ---- the items

-- an item put down, and what is left of them; and nothing is left
module _ (t : List ℕ) (xs : List LinkItem) (i : ℕ) (qs : List (List ℕ)) (b all : List ℕ) (p : ℕ) (inv : put_all b p (items_parts t (drop i xs) ++ qs) ≡ all) where
  pub items-on : {ys : List ℕ} {q : ℕ} (d : LinkItem) → i < length xs → Puts b p (item_parts t (get_or xs i d)) ys q → put_all ys q (items_parts t (drop (i + 1) xs) ++ qs) ≡ all
  unfolding items_parts
  items-on d h f =
      let x = get_or xs i d in
      let left = drop (i + 1) xs in
      let whole : items_parts t (drop i xs) ≡ item_parts t x ++ items_parts t left = ap (items_parts t) (drop_more xs i d h) in
      f.rest (items_parts t left ++ qs) ∙ ap (put_all b p) (sym (append_assoc (item_parts t x) (items_parts t left) qs) ∙ ap (λ ps. ps ++ qs) (sym whole)) ∙ inv

  pub items-done : length xs ≤ i → put_all b p qs ≡ all
  unfolding items_parts
  items-done h = ap (λ ps. put_all b p (ps ++ qs)) (sym (ap (items_parts t) (drop_of_length-le xs {i = i} h))) ∙ inv
