-- A body that is accepted is the syntax's bytes of the link read from it, and that link fits.
-- Assumes nothing.
use mathlib.Core.Path.{◌≡◌, refl, sym, ap, ◌∙◌}
use Prim.Native.Nat.{ℕ, ◌+◌, ◌*◌, ◌/◌, ◌%◌, ◌≤◌}
use native.Mathlib.Omega.{arith}
use native.Mathlib.Numerals.{add-one}
use mathlib.Core.Bool.{Bool, true, false}
use mathlib.Core.List.{List, [], ◌∷◌, ◌++◌, append_assoc, append-nil}
use mathlib.Core.Option.{Option, none, some}
use lib.Dec.{eqb}
use lib.ListN.{length, take, drop, get_or, length-drop}
use lib.Seq.{take-add, take-suc, take_all}
use borrow.Author.Tests.{eqb-true, eqb-false}
use Rattle.wire.specs.Choice.{pick, bit}
use Rattle.wire.specs.Lists.{Bytes, part}
use Rattle.field.specs.Fields.{low, icon_id}
use Rattle.length_field.specs.Lengths.{block_bytes, block_end, beside_at}
use Rattle.wire.specs.Verdict.{refuse, ◌▷◌, Fine, Verdict}
use Rattle.wire.proofs.Lists.{bytes-at, bytes-part, bytes_drop, length_part, firsts-part}
use Rattle.length_field.proofs.Blocks.{block-rebuild, block-fits, beside-narrow, last-passed}
use Rattle.wire.proofs.Verdicts.{then-fine, passed-ltb}
use Rattle.locator.specs.Reading.{read_locator}
use Rattle.locator.proofs.Rebuild as locator
use Rattle.link.specs.Syntax.{LinkFits, UriFits, LocatorFits, here, uri_due, locator_due, field_bytes, uri_bytes, locator_part, items_bytes, tail_of, link_body}
use Rattle.link.specs.Reading.{type_at, type_reserved_at, how_related_at, term_id_at, group_id_at, precedence_at, uri_end_place, locator_said, locator_got, locator_used, locator_in, count_place, item_count, items_reserved_at, tail_place, uri_verdict, locator_rows, count_verdict, items_verdict, front_verdict, rest_verdict, body_verdict, items_at, link_at}
use Rattle.link.proofs.Items.{items-rebuild, ItemsRebuilt, length-items_at}
use Rattle.locator.specs.declared.reading.LocatorRead.{LocatorRead}
use Rattle.std.specs.Prelude.{Err, Ok, Result}
use Rattle.wire.specs.declared.verdict.Refusal.{Refusal}

-- ---- the rows that are passed

pub record Passed (xs : List ℕ) : Type 0 where
  pub four : 4 ≤ length xs
  pub uri : uri_verdict xs ≡ Fine
  pub place : locator_rows xs ≡ Fine
  pub count : count_place xs + 1 ≤ length xs
  pub items : items_verdict (item_count xs) xs (count_place xs + 1) ≡ Fine
  pub tail : block_end xs (tail_place xs) ≡ length xs

pub passed : (xs : List ℕ) → body_verdict xs ≡ Fine → Passed xs
unfolding body_verdict front_verdict rest_verdict count_verdict
passed xs v =
    let front = then-fine (front_verdict xs) _ v in
    let a = then-fine (refuse _ 6 4 (length xs)) _ front.0 in
    let b = then-fine (uri_verdict xs) _ a.1 in
    let c = then-fine (locator_rows xs) _ b.1 in
    let d = then-fine (items_verdict (item_count xs) xs (count_place xs + 1)) _ front.1 in
    record {
      four = passed-ltb _ _ _ _ _ a.0;
      uri = b.0;
      place = c.0;
      count = passed-ltb _ _ _ _ _ c.1;
      items = d.0;
      tail = last-passed 14 15 16 xs (length xs) (tail_place xs) d.1;
    }

-- ---- the URI

abbrev uri_of : List ℕ → Option (List ℕ)
uri_of xs = pick (uri_due (type_at xs)) (some (part xs 5 (get_or xs 4 0))) none

record UriRebuilt (t : Bool) (xs : List ℕ) : Type 0 where
  low : 4 ≤ pick t (5 + get_or xs 4 0) 4
  within : pick t (5 + get_or xs 4 0) 4 ≤ length xs
  same : take 4 xs ++ uri_bytes (pick t (some (part xs 5 (get_or xs 4 0))) none) ≡ take (pick t (5 + get_or xs 4 0) 4) xs
  fits : UriFits (pick t (some (part xs 5 (get_or xs 4 0))) none)
  there : here (pick t (some (part xs 5 (get_or xs 4 0))) none) ≡ t

uri-rebuild : (t : Bool) (xs : List ℕ) → Bytes xs → 4 ≤ length xs
    → pick t (refuse (lib.Dec.ltb (length xs) 5) 7 5 (length xs) ▷ refuse (lib.Dec.ltb (length xs) (5 + get_or xs 4 0)) 8 (5 + get_or xs 4 0) (length xs)) Fine ≡ Fine
    → UriRebuilt t xs
unfolding uri_bytes
uri-rebuild false xs b h v = record { low = omega arith; within = h; same = append-nil (take 4 xs); fits = tt; there = refl }
uri-rebuild true xs b h v =
    let n : ℕ = get_or xs 4 0 in
    let w : 5 + n ≤ length xs = passed-ltb (length xs) (5 + n) _ _ _ (then-fine _ _ v).1 in
    let l : length (part xs 5 n) ≡ n = length_part xs 5 n w in
    let one : take 4 xs ++ n ∷ [] ≡ take 5 xs = sym (take-suc xs 4 0 (omega arith)) in
    record {
      low = omega arith;
      within = w;
      same = rw l (sym (append_assoc (take 4 xs) (n ∷ []) (part xs 5 n)) ∙ ap (λ r. r ++ part xs 5 n) one ∙ sym (take-add 5 n xs));
      fits = (rw l (omega (arith, bytes-at xs 4 b)), bytes-part xs 5 n b);
      there = refl;
    }

-- ---- the locator

record PlaceRebuilt (t : Bool) (a : Result LocatorRead Refusal) (xs : List ℕ) (p : ℕ) : Type 0 where
  up : p ≤ pick t (p + locator_used a) p
  within : pick t (p + locator_used a) p ≤ length xs
  same : take p xs ++ locator_part (pick t (locator_got a) none) ≡ take (pick t (p + locator_used a) p) xs
  fits : LocatorFits (pick t (locator_got a) none)
  there : here (pick t (locator_got a) none) ≡ t

place-rebuild : (t : Bool) (a : Result LocatorRead Refusal) (xs : List ℕ) (p : ℕ) (w : Verdict) → Bytes xs → p ≤ length xs → read_locator (drop p xs) ≡ a
    → pick t (w ▷ locator_said a) Fine ≡ Fine → PlaceRebuilt t a xs p
unfolding locator_part
place-rebuild false a xs p w b h e v = record { up = omega arith; within = h; same = append-nil (take p xs); fits = tt; there = refl }
place-rebuild true (Err r) xs p w b h e v = let z : ◌≡◌ {A = ℕ} 0 1 = (let q = (then-fine w _ v).1 in cc) in absurd (omega arith)
place-rebuild true (Ok got) xs p w b h e v =
    let g = locator.rebuild (drop p xs) got.locator got.used (bytes_drop p xs b) e in
    record {
      up = omega arith;
      within = omega (arith, g.there, length-drop p xs);
      same = rw (← g.same) (sym (take-add p got.used xs));
      fits = g.fits;
      there = refl;
    }

-- ---- the fields, and the flag and icon beside the descriptors' length

fields-rebuild : (r : ℕ) (xs : List ℕ) → Bytes xs → 4 ≤ length xs → field_bytes (link_at r xs) ≡ take 4 xs
unfolding field_bytes link_at
fields-rebuild r xs b h = (λ i. q0 i ∷ q1 i ∷ q2 i ∷ q3 i ∷ []) ∙ firsts-part 4 xs 0 (omega arith)
  where
    q0 : type_at xs * 16 + type_reserved_at xs * 4 + how_related_at xs / 16 ≡ get_or xs 0 0
    q0 = omega (arith, bytes-at xs 0 b, bytes-at xs 1 b)

    q1 : how_related_at xs % 16 * 16 + term_id_at xs / 256 ≡ get_or xs 1 0
    q1 = omega (arith, bytes-at xs 1 b, bytes-at xs 2 b)

    q2 : term_id_at xs % 256 ≡ get_or xs 2 0
    q2 = omega (arith, bytes-at xs 2 b)

    q3 : group_id_at xs * 16 + precedence_at xs ≡ get_or xs 3 0
    q3 = omega (arith, bytes-at xs 3 b)

flag-rebuild : (n : ℕ) → n ≤ 15 → bit (eqb (n / 8) 1) * 8 + low icon_id n ≡ n
flag-rebuild n h = go (eqb (n / 8) 1) refl
  where
    go : (t : Bool) → eqb (n / 8) 1 ≡ t → bit t * 8 + low icon_id n ≡ n
    go true e = omega (arith, eqb-true (n / 8) 1 e)
    go false e = omega (arith, eqb-false (n / 8) 1 e)

-- ---- the whole body

module _ (r : ℕ) (xs : List ℕ) (b : Bytes xs) (h : r ≤ 15) (v : body_verdict xs ≡ Fine) where
  p : Passed xs
  p = passed xs v

  uri : UriRebuilt (uri_due (type_at xs)) xs
  unfolding uri_verdict
  uri = uri-rebuild (uri_due (type_at xs)) xs b p.four p.uri

  place : PlaceRebuilt (locator_due (type_at xs)) (locator_in xs) xs (uri_end_place xs)
  unfolding locator_rows
  place = place-rebuild (locator_due (type_at xs)) (locator_in xs) xs (uri_end_place xs) _ b uri.within refl p.place

  items : ItemsRebuilt (item_count xs) xs (count_place xs + 1)
  items = items-rebuild (item_count xs) xs (count_place xs + 1) b p.count p.items

  counted : take (count_place xs) xs ++ ((items_reserved_at xs * 64 + length (items_at (item_count xs) xs (count_place xs + 1))) ∷ []) ≡ take (count_place xs + 1) xs
  counted =
      let e : items_reserved_at xs * 64 + length (items_at (item_count xs) xs (count_place xs + 1)) ≡ get_or xs (count_place xs) 0 =
      omega (arith, length-items_at (item_count xs) xs (count_place xs + 1), bytes-at xs (count_place xs) b) in
      rw (e, add-one (count_place xs)) (sym (take-suc xs (count_place xs) 0 (omega (arith, p.count))))

  tail : take (tail_place xs) xs ++ block_bytes (tail_of (link_at r xs)) ≡ xs
  unfolding link_at
  tail =
      rw (flag-rebuild (beside_at xs (tail_place xs)) (beside-narrow xs (tail_place xs) b))
      (block-rebuild xs (tail_place xs) b (omega (arith, p.tail)) ∙ take_all (block_end xs (tail_place xs)) xs (omega (arith, p.tail)))

  pub body-rebuilt : link_body (link_at r xs) ≡ xs
  unfolding link_body link_at
  body-rebuilt =
      rw (fields-rebuild r xs b p.four) (
      join (take 4 xs) (uri_bytes (link_at r xs).uri) _ uri.same
      ∙ join (take (uri_end_place xs) xs) (locator_part (link_at r xs).locator) _ place.same
      ∙ join (take (count_place xs) xs) (_ ∷ []) _ counted
      ∙ join (take (count_place xs + 1) xs) (items_bytes (link_at r xs).items) _ items.same
      ∙ tail)
    where
      join : (a c z : List ℕ) {d : List ℕ} → a ++ c ≡ d → a ++ (c ++ z) ≡ d ++ z
      join a c z {d} e = sym (append_assoc a c z) ∙ ap (λ l. l ++ z) e

  pub link_fits : LinkFits (link_at r xs)
  unfolding link_at
  link_fits =
      let b0 = bytes-at xs 0 b in
      let b1 = bytes-at xs 1 b in
      let b2 = bytes-at xs 2 b in
      let b3 = bytes-at xs 3 b in
      let bc = bytes-at xs (count_place xs) b in
      let tb = block-fits xs (tail_place xs) b (omega (arith, p.tail)) in
      record {
        length_reserved = h;
        link_type = omega arith;
        type_reserved = omega arith;
        how_related = omega arith;
        term_id = omega arith;
        group_id = omega arith;
        precedence = omega arith;
        uri_here = uri.there;
        uri = uri.fits;
        locator_here = place.there;
        locator = place.fits;
        items_reserved = omega arith;
        count = rw length-items_at (omega arith);
        items = items.fit;
        icon_id = omega (arith, tb.narrow);
        short = tb.short;
        descriptors = tb.bytes;
      }
