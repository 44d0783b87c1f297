-- The body of a fitting link is accepted, and read as the link that it was written from.
-- Assumes nothing.
use mathlib.Core.Path.{◌≡◌, refl, sym, ap, ◌∙◌}
use Prim.Native.Nat.{ℕ, ◌+◌, ◌*◌, ◌/◌, ◌≤◌}
use native.Mathlib.Omega.{arith}
use mathlib.Core.Bool.{Bool, true, false, true≢false}
use mathlib.Core.List.{List, [], ◌∷◌, ◌++◌, append-nil}
use mathlib.Core.Option.{Option, none, some}
use lib.Dec.{eqb, ltb}
use lib.ListN.{length, drop, get_or, length-append}
use lib.Seq.{take_at}
use Rattle.wire.specs.Choice.{pick, bit}
use Rattle.wire.specs.Lists.{part}
use Rattle.field.specs.Fields.{low, icon_id}
use Rattle.length_field.specs.Lengths.{Block, BlockFits, block_bytes, block_end, beside_at}
use Rattle.wire.specs.Verdict.{refuse, ◌▷◌, Fine}
use Rattle.wire.proofs.Lists.{at-drop-first, drop_past}
use Rattle.length_field.proofs.Blocks.{BlockRead, block_back, block-length, last-pass}
use Rattle.wire.proofs.Verdicts.{fine-then, pass-ltb}
use Rattle.locator.specs.Syntax.{locator_bytes, locator_length}
use Rattle.locator.proofs.Back as locator
use Rattle.locator.proofs.Sizes.{bytes-length}
use Rattle.locator.specs.Reading.{read_locator, got_locator}
use Rattle.locator.specs.declared.DvbBinaryLocator.{DvbBinaryLocator}
use Rattle.link.specs.Syntax.{Link, LinkFits, LocatorFits, here, uri_due, locator_due, field_bytes, uri_bytes, locator_part, items_bytes, tail_of, link_body}
use Rattle.link.specs.Reading.{type_at, type_reserved_at, how_related_at, term_id_at, group_id_at, precedence_at, uri_end_place, locator_said, locator_got, locator_used, count_place, item_count, items_reserved_at, item_place, tail_place, default_icon_at, icon_id_at, uri_verdict, locator_rows, count_verdict, items_verdict, front_verdict, rest_verdict, body_verdict, items_at, link_at}
use Rattle.link.proofs.Items.{ItemsRead, items_back}

-- ---- the URI

record UriRead (t : Bool) (u : Option (List ℕ)) (xs post : List ℕ) : Type 0 where
  end : pick t (5 + get_or xs 4 0) 4 ≡ 4 + length (uri_bytes u)
  same : pick t (some (part xs 5 (get_or xs 4 0))) none ≡ u
  past : drop (pick t (5 + get_or xs 4 0) 4) xs ≡ post
  passed : pick t (refuse (ltb (length xs) 5) 7 5 (length xs) ▷ refuse (ltb (length xs) (5 + get_or xs 4 0)) 8 (5 + get_or xs 4 0) (length xs)) Fine ≡ Fine

uri-back : (t : Bool) (u : Option (List ℕ)) (xs post : List ℕ) → here u ≡ t → drop 4 xs ≡ uri_bytes u ++ post → 4 + length (uri_bytes u) ≤ length xs → UriRead t u xs post
unfolding uri_bytes
uri-back true none xs post h d l = absurd (true≢false (sym h))
uri-back false (some u) xs post h d l = absurd (true≢false h)
uri-back false none xs post h d l = record { end = refl; same = refl; past = d; passed = refl }
uri-back true (some u) xs post h d l =
    let n : get_or xs 4 0 ≡ length u = at-drop-first xs 4 _ d in
    let rest : drop 5 xs ≡ u ++ post = drop_past xs 4 1 (length u ∷ []) (u ++ post) d refl in
    record {
      end = omega arith;
      same = rw (rest, n) (ap some (take_at u post (length u) refl));
      past = drop_past xs 5 (get_or xs 4 0) u post rest (sym n);
      passed = fine-then _ _ (pass-ltb (length xs) 5 _ _ _ (omega arith)) (pass-ltb (length xs) (5 + get_or xs 4 0) _ _ _ (omega arith));
    }

-- ---- the locator

locator-some : (l : DvbBinaryLocator) → 1 ≤ length (locator_bytes l)
unfolding locator_length
locator-some l = omega (arith, bytes-length l)

record PlaceRead (t : Bool) (m : Option DvbBinaryLocator) (xs : List ℕ) (p : ℕ) (post : List ℕ) : Type 0 where
  end : pick t (p + locator_used (read_locator (drop p xs))) p ≡ p + length (locator_part m)
  same : pick t (locator_got (read_locator (drop p xs))) none ≡ m
  past : drop (pick t (p + locator_used (read_locator (drop p xs))) p) xs ≡ post
  passed : pick t (refuse (ltb (length xs) (p + 1)) 9 (p + 1) (length xs) ▷ locator_said (read_locator (drop p xs))) Fine ≡ Fine

place-back : (t : Bool) (m : Option DvbBinaryLocator) (xs : List ℕ) (p : ℕ) (post : List ℕ) → here m ≡ t → LocatorFits m
    → drop p xs ≡ locator_part m ++ post → p + length (locator_part m) ≤ length xs → PlaceRead t m xs p post
unfolding locator_part
place-back true none xs p post h f d l = absurd (true≢false (sym h))
place-back false (some m) xs p post h f d l = absurd (true≢false h)
place-back false none xs p post h f d l = record { end = omega arith; same = refl; past = d; passed = refl }
place-back true (some m) xs p post h f d l =
    let e : read_locator (drop p xs) ≡ got_locator m (length (locator_bytes m)) = ap read_locator d ∙ locator.read_back m post f in
    record {
      end = rw e;
      same = rw e;
      past = rw e (drop_past xs p (length (locator_bytes m)) (locator_bytes m) post d refl);
      passed = fine-then _ _ (pass-ltb (length xs) (p + 1) _ _ _ (omega (arith, locator-some m))) (rw e);
    }

-- ---- the whole body

module _ (l : Link) (f : LinkFits l) where
  abbrev xs : List ℕ
  xs = link_body l

  abbrev U : List ℕ
  U = uri_bytes l.uri

  abbrev P : List ℕ
  P = locator_part l.locator

  abbrev N : ℕ
  N = l.items_reserved * 64 + length l.items

  abbrev I : List ℕ
  I = items_bytes l.items

  abbrev T : List ℕ
  T = block_bytes (tail_of l)

  whole : link_body l ≡ field_bytes l ++ (U ++ (P ++ ((N ∷ I) ++ T)))
  unfolding link_body
  whole = refl

  size : length (link_body l) ≡ 4 + length U + length P + 1 + length I + length T
  unfolding link_body field_bytes
  size = omega (arith, length-append U (P ++ ((N ∷ I) ++ T)), length-append P ((N ∷ I) ++ T), length-append I T)

  record FieldsRead : Type 0 where
    type-is : type_at (link_body l) ≡ l.link_type
    reserved-is : type_reserved_at (link_body l) ≡ l.type_reserved
    related-is : how_related_at (link_body l) ≡ l.how_related
    term_is : term_id_at (link_body l) ≡ l.term_id
    group-is : group_id_at (link_body l) ≡ l.group_id
    precedence-is : precedence_at (link_body l) ≡ l.precedence
    rest : drop 4 (link_body l) ≡ U ++ (P ++ ((N ∷ I) ++ T))

  fields : FieldsRead
  unfolding link_body field_bytes
  fields =
      let h1 = f.type_reserved in
      let h2 = f.how_related in
      let h3 = f.term_id in
      let h4 = f.precedence in
      let h5 = f.link_type in
      let h6 = f.group_id in
      record {
        type-is = omega arith;
        reserved-is = omega arith;
        related-is = omega arith;
        term_is = omega arith;
        group-is = omega arith;
        precedence-is = omega arith;
        rest = refl;
      }

  uri : UriRead (uri_due (type_at (link_body l))) l.uri (link_body l) (P ++ ((N ∷ I) ++ T))
  uri = uri-back (uri_due (type_at (link_body l))) l.uri (link_body l) _ (f.uri_here ∙ ap uri_due (sym fields.type-is)) fields.rest (omega (arith, size))

  place : PlaceRead (locator_due (type_at (link_body l))) l.locator (link_body l) (uri_end_place (link_body l)) ((N ∷ I) ++ T)
  place =
      place-back (locator_due (type_at (link_body l))) l.locator (link_body l) (uri_end_place (link_body l)) _ (f.locator_here ∙ ap locator_due (sym fields.type-is)) f.locator
      uri.past (omega (arith, size, uri.end))

  count_is : get_or (link_body l) (count_place (link_body l)) 0 ≡ N
  count_is = at-drop-first (link_body l) (count_place (link_body l)) _ place.past

  number_is : item_count (link_body l) ≡ length l.items
  number_is = omega (arith, count_is, f.count)

  items : ItemsRead l.items (link_body l) (count_place (link_body l) + 1) T
  items =
      items_back l.items (link_body l) (count_place (link_body l) + 1) T
      (drop_past (link_body l) (count_place (link_body l)) 1 (N ∷ []) (I ++ T) place.past refl) (omega (arith, size, uri.end, place.end))

  tail-place : tail_place (link_body l) ≡ count_place (link_body l) + 1 + length I
  tail-place = ap (λ n. item_place n (link_body l) (count_place (link_body l) + 1)) number_is ∙ items.end

  pub tail-fits : BlockFits (tail_of l)
  tail-fits = record { narrow = go l.default_icon; short = f.short; bytes = f.descriptors }
    where
      go : (t : Bool) → bit t * 8 + l.icon_id ≤ 15
      go true = omega (arith, f.icon_id)
      go false = omega (arith, f.icon_id)

  tail-past : drop (tail_place (link_body l)) (link_body l) ≡ T ++ []
  tail-past = ap (λ n. drop (item_place n (link_body l) (count_place (link_body l) + 1)) (link_body l)) number_is ∙ items.past ∙ sym (append-nil T)

  tail : BlockRead (link_body l) (tail_place (link_body l)) (tail_of l) []
  tail = block_back (link_body l) (tail_place (link_body l)) (tail_of l) [] tail-fits tail-past

  end : block_end (link_body l) (tail_place (link_body l)) ≡ length (link_body l)
  end = omega (arith, size, uri.end, place.end, tail-place, tail.len, block-length (tail_of l))

  pub body-passed : body_verdict (link_body l) ≡ Fine
  unfolding body_verdict front_verdict rest_verdict uri_verdict locator_rows count_verdict
  body-passed =
      fine-then _ _
      (fine-then _ _ (pass-ltb (length (link_body l)) 4 _ _ _ (omega (arith, size)))
      (fine-then _ _ uri.passed
      (fine-then _ _ place.passed (pass-ltb (length (link_body l)) (count_place (link_body l) + 1) _ _ _ (omega (arith, size, uri.end, place.end))))))
      (fine-then _ _ (ap (λ n. items_verdict n (link_body l) (count_place (link_body l) + 1)) number_is ∙ items.passed)
      (last-pass 14 15 16 (link_body l) (length (link_body l)) (tail_place (link_body l)) end))

  beside_is : beside_at (link_body l) (tail_place (link_body l)) ≡ bit l.default_icon * 8 + l.icon_id
  beside_is = ap (λ (b : Block). b.beside) tail.same

  flag_is : default_icon_at (link_body l) ≡ l.default_icon
  flag_is = rw beside_is (go l.default_icon)
    where
      go : (t : Bool) → eqb ((bit t * 8 + l.icon_id) / 8) 1 ≡ t
      go true = let e : (bit true * 8 + l.icon_id) / 8 ≡ 1 = omega (arith, f.icon_id) in rw e
      go false = let e : (bit false * 8 + l.icon_id) / 8 ≡ 0 = omega (arith, f.icon_id) in rw e

  icon-is : icon_id_at (link_body l) ≡ l.icon_id
  icon-is = rw beside_is (go l.default_icon)
    where
      go : (t : Bool) → low icon_id (bit t * 8 + l.icon_id) ≡ l.icon_id
      go true = omega (arith, f.icon_id)
      go false = omega (arith, f.icon_id)

  reserved-is : items_reserved_at (link_body l) ≡ l.items_reserved
  reserved-is = omega (arith, count_is, f.count, f.items_reserved)

  items-is : items_at (item_count (link_body l)) (link_body l) (count_place (link_body l) + 1) ≡ l.items
  items-is = ap (λ n. items_at n (link_body l) (count_place (link_body l) + 1)) number_is ∙ items.same

  pub body-read : link_at l.length_reserved (link_body l) ≡ l
  unfolding link_at
  body-read = λ i. record {
    length_reserved = l.length_reserved;
    link_type = fields.type-is i;
    type_reserved = fields.reserved-is i;
    how_related = fields.related-is i;
    term_id = fields.term_is i;
    group_id = fields.group-is i;
    precedence = fields.precedence-is i;
    uri = uri.same i;
    locator = place.same i;
    items_reserved = reserved-is i;
    items = items-is i;
    default_icon = flag_is i;
    icon_id = icon-is i;
    descriptors = ap (λ (b : Block). b.body) tail.same i;
  }
