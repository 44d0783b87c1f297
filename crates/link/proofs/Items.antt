-- Items, one after the other: what was written is read, and what is read, written, is what stands there.
-- Assumes nothing.
use mathlib.Core.Path.{◌≡◌, refl, sym, ap, ap₂, ◌∙◌}
use Prim.Native.Nat.{ℕ, zero, suc, ◌+◌, ◌≤◌, ◌<◌}
use native.Mathlib.Omega.{arith}
use mathlib.Core.List.{List, [], ◌∷◌, ◌++◌, append_assoc, append-nil}
use lib.ListN.{length, take, drop, get_or, length-append, length-drop}
use lib.Seq.{take-add, take_at}
use Rattle.wire.specs.Lists.{Bytes, part}
use Rattle.wire.proofs.Lists.{bytes-at, bytes-part, bytes-append, length_part, four-part, at_drop, at-drop-first, drop_past}
use Rattle.wire.proofs.Verdicts.{then-fine, fine-then, passed-ltb, pass-ltb}
use Rattle.link.specs.Syntax.{Item, ItemFits, ItemsFit, item_bytes, items_bytes}
use Rattle.link.specs.Reading.{item_at, item_end, item_place, items_at, item_verdict, items_verdict}
use Rattle.wire.specs.Verdict.{Fine}

-- ---- one item

pub item-length : (i : Item) → length (item_bytes i) ≡ 4 + length i.text
unfolding item_bytes
item-length i = omega arith

pub item-bytes : (i : Item) → ItemFits i → Bytes (item_bytes i)
unfolding item_bytes
item-bytes i f = (f.first, (f.second, (f.third, (omega (arith, f.short), f.bytes))))

pub item-passed : (xs : List ℕ) (p : ℕ) → item_verdict xs p ≡ Fine → item_end xs p ≤ length xs
unfolding item_verdict
item-passed xs p v = passed-ltb (length xs) (item_end xs p) _ _ _ (then-fine _ _ v).1

pub item-pass : (xs : List ℕ) (p : ℕ) → item_end xs p ≤ length xs → item_verdict xs p ≡ Fine
unfolding item_verdict
item-pass xs p h = fine-then _ _ (pass-ltb (length xs) (p + 4) _ _ _ (omega arith)) (pass-ltb _ _ _ _ _ h)

pub item-fits : (xs : List ℕ) (p : ℕ) → Bytes xs → item_end xs p ≤ length xs → ItemFits (item_at xs p)
item-fits xs p b h =
    record {
      first = bytes-at xs p b;
      second = bytes-at xs (p + 1) b;
      third = bytes-at xs (p + 2) b;
      short = rw (length_part xs (p + 4) (get_or xs (p + 3) 0) h) (omega (arith, bytes-at xs (p + 3) b));
      bytes = bytes-part xs (p + 4) (get_or xs (p + 3) 0) b;
    }

pub item-rebuild : (xs : List ℕ) (p : ℕ) → item_end xs p ≤ length xs → take p xs ++ item_bytes (item_at xs p) ≡ take (item_end xs p) xs
unfolding item_bytes
item-rebuild xs p h =
    rw (length_part xs (p + 4) n h, four)
    (sym (append_assoc (take p xs) (part xs p 4) (part xs (p + 4) n)) ∙ ap (λ r. r ++ part xs (p + 4) n) (sym (take-add p 4 xs)) ∙ sym (take-add (p + 4) n xs))
  where
    n : ℕ
    n = get_or xs (p + 3) 0

    four : get_or xs p 0 ∷ get_or xs (p + 1) 0 ∷ get_or xs (p + 2) 0 ∷ n ∷ part xs (p + 4) n ≡ part xs p 4 ++ part xs (p + 4) n
    four = ap (λ r. r ++ part xs (p + 4) n) (four-part xs p (omega arith))

pub record ItemRead (xs : List ℕ) (p : ℕ) (i : Item) (post : List ℕ) : Type 0 where
  pub end : item_end xs p ≡ p + length (item_bytes i)
  pub same : item_at xs p ≡ i
  pub past : drop (item_end xs p) xs ≡ post

pub item_back : (xs : List ℕ) (p : ℕ) (i : Item) (post : List ℕ) → drop p xs ≡ item_bytes i ++ post → ItemRead xs p i post
unfolding item_bytes
item_back xs p i post e =
    record {
      end = omega (arith, y3);
      same = λ j. record { language = record { first = y0 j; second = y1 j; third = y2 j }; text = text_ok j };
      past = drop_past xs (p + 4) (get_or xs (p + 3) 0) i.text post rest (sym y3);
    }
  where
    y0 : get_or xs p 0 ≡ i.language.first
    y0 = at-drop-first xs p _ e

    y1 : get_or xs (p + 1) 0 ≡ i.language.second
    y1 = at_drop xs p 1 _ e

    y2 : get_or xs (p + 2) 0 ≡ i.language.third
    y2 = at_drop xs p 2 _ e

    y3 : get_or xs (p + 3) 0 ≡ length i.text
    y3 = at_drop xs p 3 _ e

    rest : drop (p + 4) xs ≡ i.text ++ post
    rest = drop_past xs p 4 (i.language.first ∷ i.language.second ∷ i.language.third ∷ length i.text ∷ []) (i.text ++ post) e refl

    text_ok : part xs (p + 4) (get_or xs (p + 3) 0) ≡ i.text
    text_ok = rw (rest, y3) (take_at i.text post (length i.text) refl)

-- ---- a run of them

pub items-bytes : (is : List Item) → ItemsFit is → Bytes (items_bytes is)
unfolding items_bytes
items-bytes [] f = tt
items-bytes (i ∷ is) f = bytes-append (item_bytes i) (items_bytes is) (item-bytes i f.0) (items-bytes is f.1)

pub length-items_at : (n : ℕ) (xs : List ℕ) (p : ℕ) → length (items_at n xs p) ≡ n
unfolding items_at
length-items_at zero xs p = refl
length-items_at (suc n) xs p = ap suc (length-items_at n xs (item_end xs p))

pub record ItemsRebuilt (n : ℕ) (xs : List ℕ) (p : ℕ) : Type 0 where
  pub up : p ≤ item_place n xs p
  pub within : item_place n xs p ≤ length xs
  pub same : take p xs ++ items_bytes (items_at n xs p) ≡ take (item_place n xs p) xs
  pub fit : ItemsFit (items_at n xs p)

pub items-rebuild : (n : ℕ) (xs : List ℕ) (p : ℕ) → Bytes xs → p ≤ length xs → items_verdict n xs p ≡ Fine → ItemsRebuilt n xs p
unfolding items_verdict items_at items_bytes
items-rebuild zero xs p b h v = record { up = omega arith; within = h; same = append-nil (take p xs); fit = tt }
items-rebuild (suc n) xs p b h v =
    let two = then-fine (item_verdict xs p) _ v in
    let e : item_end xs p ≤ length xs = item-passed xs p two.0 in
    let w = items-rebuild n xs (item_end xs p) b e two.1 in
    record {
      up = omega (arith, w.up);
      within = w.within;
      same = sym (append_assoc (take p xs) (item_bytes (item_at xs p)) _) ∙ ap (λ r. r ++ items_bytes (items_at n xs (item_end xs p))) (item-rebuild xs p e) ∙ w.same;
      fit = (item-fits xs p b e, w.fit);
    }

pub record ItemsRead (is : List Item) (xs : List ℕ) (p : ℕ) (post : List ℕ) : Type 0 where
  pub end : item_place (length is) xs p ≡ p + length (items_bytes is)
  pub same : items_at (length is) xs p ≡ is
  pub past : drop (item_place (length is) xs p) xs ≡ post
  pub passed : items_verdict (length is) xs p ≡ Fine

pub items_back : (is : List Item) (xs : List ℕ) (p : ℕ) (post : List ℕ) → drop p xs ≡ items_bytes is ++ post → p + length (items_bytes is) ≤ length xs → ItemsRead is xs p post
unfolding items_verdict items_at items_bytes
items_back [] xs p post d h = record { end = omega arith; same = refl; past = d; passed = refl }
items_back (i ∷ is) xs p post d h =
    let r : ItemRead xs p i (items_bytes is ++ post) = item_back xs p i (items_bytes is ++ post) (d ∙ append_assoc (item_bytes i) (items_bytes is) post) in
    let n : length (items_bytes (i ∷ is)) ≡ length (item_bytes i) + length (items_bytes is) = length-append (item_bytes i) (items_bytes is) in
    let w = items_back is xs (item_end xs p) post r.past (omega (arith, r.end)) in
    record {
      end = omega (arith, w.end, r.end);
      same = λ j. r.same j ∷ w.same j;
      past = w.past;
      passed = fine-then _ _ (item-pass xs p (omega (arith, r.end))) w.passed;
    }
