-- The parts of a body, joined, are the syntax's bytes where the record passes its checks, and are never longer than the
-- record says.
-- Assumes nothing.
use Prim.Native.Nat.{ℕ, ◌+◌, ◌*◌, ◌≤◌}
use mathlib.Core.Path.{◌≡◌, refl, sym, ap, ◌∙◌}
use mathlib.Core.Bool.{Bool, true, false}
use mathlib.Core.List.{List, [], ◌∷◌, ◌++◌, map, flatten, append_assoc, append-nil}
use native.Mathlib.Omega.{arith}
use lib.Dec.{leb}
use lib.ListN.{length, length-append, length-map, length-take}
use Rattle.wire.specs.Choice.{pick}
use Rattle.length_field.specs.Lengths.{length_bytes, block_bytes}
use Rattle.spans.specs.Spans.{span, span_of, span_in}
use Rattle.spans.proofs.SpanLaws.{span-inside}
use Rattle.wire.proofs.Verdicts.{then-fine}
use Rattle.field.specs.Fields.{how_related, term_id, link_type, link_type_reserved, group_id, precedence, uri_length, number_items_reserved, text_length, descriptor_length, icon_id, low}
use Rattle.field.specs.declared.Field.{Field}
use Rattle.field.proofs.Checks.{field-passed, low-whole}
use Rattle.locator.specs.Syntax.{locator_bytes}
use Rattle.locator.specs.Writing.{narrowed}
use Rattle.locator.proofs.Sizes.{bytes-length}
use Rattle.locator.proofs.Written.{narrowed-length, written-checked}
use Rattle.link.specs.Syntax.{field_bytes, uri_bytes, locator_part, item_bytes, items_bytes, tail_of, link_body}
use Rattle.link.specs.Records.{range_of, item_of, uri_of, locator_of, items_of, link_of}
use Rattle.link.specs.declared.Range.{Range}
use Rattle.link.specs.declared.LinkItem.{LinkItem}
use Rattle.link.specs.declared.LinkFields.{LinkFields}
use Rattle.link.specs.declared.LinkInfo.{LinkInfo}
use Rattle.link_draft.specs.Checks.{first_in, check_uri, check_locator_fields, check_text, check_link}
use Rattle.link_draft.specs.Carried.{Each, HeadNarrow, EndNarrow, Within, UriWithin, TextWithin}
use Rattle.link_draft.specs.Lengths.{tail_head, uri_size, locator_size, items_size, link_length}
use Rattle.link_draft.specs.Writing.{range_in, head_bytes, headed, uri_parts, locator_parts, count_bytes, front_parts, item_parts, items_parts, tail_parts, link_parts}
use Rattle.link_draft.proofs.Sizes.{range_length}
use Rattle.link_draft.proofs.Exact.{passed}
use Rattle.link_draft.proofs.Parts.{flatten-append}
use Rattle.link.specs.Options.{LinkLocator, MediaUri}
use Rattle.std.specs.Prelude.{None, Some}
use Rattle.wire.specs.Verdict.{Fine}

-- ---- what passes is written as it is

range-in : (t : List ℕ) (r : Range) → Within t r → range_in t r ≡ range_of t r
unfolding range_in
range-in t r w = rw (span-inside t (span r.start r.length) w)

headed-flat : (t head : List ℕ) (r : Range) → Within t r → flatten (headed t head r) ≡ head ++ range_of t r
unfolding flatten
headed-flat t head r w = rw (append-nil (range_in t r), range-in t r w)

-- the length before a range that lies in the text is that of its bytes
length-low : (f : Field) (t : List ℕ) (r : Range) → Within t r → r.length ≤ f.widest → low f r.length ≡ length (range_of t r)
length-low f t r w h = low-whole f r.length h ∙ sym (range_length t r w)

head-flat : (t : List ℕ) (k : LinkInfo) → HeadNarrow k.fields → head_bytes k.fields ≡ field_bytes (link_of t k)
unfolding head_bytes field_bytes link_of
head-flat t k n =
    rw (low-whole link_type _ n.type, low-whole link_type_reserved _ n.reserved, low-whole how_related _ n.related, low-whole term_id _ n.term, low-whole group_id _ n.group, low-whole precedence _ n.precedence)

uri-flat : (t : List ℕ) (u : MediaUri) → UriWithin t u → check_uri u ≡ Fine → flatten (uri_parts t u) ≡ uri_bytes (uri_of t u)
unfolding uri_parts uri_bytes check_uri
uri-flat t None w e = unfold flatten in refl
uri-flat t (Some r) w e =
    headed-flat t _ r w ∙ ap (λ n. n ∷ range_of t r) (length-low uri_length t r w (field-passed uri_length r.length e))

locator-flat : (m : LinkLocator) → check_locator_fields m ≡ Fine → flatten (locator_parts m) ≡ locator_part (locator_of m)
unfolding locator_parts locator_part check_locator_fields flatten
locator-flat None e = refl
locator-flat (Some l) e = append-nil _ ∙ ap locator_bytes (written-checked l e).same

item-flat : (t : List ℕ) (i : LinkItem) → TextWithin t i → check_text i ≡ Fine → flatten (item_parts t i) ≡ item_bytes (item_of t i)
unfolding item_parts item_bytes
item-flat t i w e =
    let l = i.language_code in
    let r = i.promotional_text in
    headed-flat t _ r w ∙ ap (λ n. l.first ∷ l.second ∷ l.third ∷ n ∷ range_of t r) (length-low text_length t r w (field-passed text_length r.length e))

items-flat : (t : List ℕ) (is : List LinkItem) → Each (TextWithin t) is → first_in check_text is ≡ Fine → flatten (items_parts t is) ≡ items_bytes (map (item_of t) is)
unfolding items_parts items_bytes first_in
items-flat t [] w e = unfold flatten in refl
items-flat t (i ∷ is) w e =
    let two = then-fine (check_text i) (first_in check_text is) e in
    flatten-append (item_parts t i) (items_parts t is) ∙ rw (item-flat t i w.0 two.0, items-flat t is w.1 two.1)

tail-flat : (t : List ℕ) (k : LinkInfo) → EndNarrow k.fields → Within t k.fields.descriptors → flatten (tail_parts t k.fields) ≡ block_bytes (tail_of (link_of t k))
unfolding tail_parts block_bytes link_of
tail-flat t k n w =
    let r = k.fields.descriptors in
    headed-flat t _ r w ∙ rw (low-whole icon_id _ n.icon, length-low descriptor_length t r w n.short)

-- the parts before the items, one by one
front-flat : (t : List ℕ) (f : LinkFields) (n : ℕ) → flatten (front_parts t f n) ≡ head_bytes f ++ (flatten (uri_parts t f.media_uri) ++ (flatten (locator_parts f.dvb_binary_locator) ++ count_bytes f n))
unfolding front_parts flatten
front-flat t f n =
    rw (flatten-append (uri_parts t f.media_uri) _, flatten-append (locator_parts f.dvb_binary_locator) _)

pub link-flat : (t : List ℕ) (k : LinkInfo) → flatten (link_parts t k)
    ≡ (head_bytes k.fields ++ (flatten (uri_parts t k.fields.media_uri) ++ (flatten (locator_parts k.fields.dvb_binary_locator) ++ count_bytes k.fields (length (items_of k)))))
    ++ (flatten (items_parts t (items_of k)) ++ flatten (tail_parts t k.fields))
unfolding link_parts
link-flat t k =
    let f = k.fields in
    rw (flatten-append (front_parts t f (length (items_of k))) _, flatten-append (items_parts t (items_of k)) (tail_parts t f), front-flat t f (length (items_of k)))

regroup : (F U L I T : List ℕ) (n : ℕ) → (F ++ (U ++ (L ++ (n ∷ [])))) ++ (I ++ T) ≡ F ++ (U ++ (L ++ ((n ∷ I) ++ T)))
regroup F U L I T n = simp append_assoc

pub parts-flat : (t : List ℕ) (k : LinkInfo) → check_link t k ≡ Fine → flatten (link_parts t k) ≡ link_body (link_of t k)
unfolding link_body link_of
parts-flat t k e =
    let p = passed t k e in
    let w = p.stands.ranges in
    let f = k.fields in
    let l = link_of t k in
    let count : length (map (item_of t) (items_of k)) ≡ length (items_of k) = length-map (items_of k) (item_of t) in
    link-flat t k
    ∙ rw (
      head-flat t k p.head,
      uri-flat t f.media_uri w.uri p.uri,
      locator-flat f.dvb_binary_locator p.locator,
      low-whole number_items_reserved _ p.reserved,
      items-flat t (items_of k) w.texts p.texts,
      tail-flat t k p.end w.descriptors,
      count,
    )
    (regroup (field_bytes l) (uri_bytes l.uri) (locator_part l.locator) (items_bytes l.items) (block_bytes (tail_of l)) (l.items_reserved * 64 + length (items_of k)))

-- ---- whatever the record, no longer than it says

range-few : (t : List ℕ) (r : Range) → length (range_in t r) ≤ r.length
unfolding range_in span_in
range-few t r = by (leb (r.start + r.length) (length t))
  where
    by : (b : Bool) → length (span_of t (pick b (span r.start r.length) (span 0 0))) ≤ r.length
    by true = rw length-take (omega arith)
    by false = omega arith

headed-few : (t head : List ℕ) (r : Range) → length (flatten (headed t head r)) ≤ length head + r.length
unfolding flatten
headed-few t head r = rw (append-nil (range_in t r), length-append) (omega (arith, range-few t r))

uri-few : (t : List ℕ) (u : MediaUri) → length (flatten (uri_parts t u)) ≤ uri_size u
unfolding uri_parts uri_size
uri-few t None = unfold flatten in omega arith
uri-few t (Some r) = headed-few t (low uri_length r.length ∷ []) r

locator-few : (m : LinkLocator) → length (flatten (locator_parts m)) ≡ locator_size m
unfolding locator_parts locator_size flatten
locator-few None = refl
locator-few (Some l) = ap length (append-nil (locator_bytes (narrowed l))) ∙ bytes-length (narrowed l) ∙ narrowed-length l

items-few : (t : List ℕ) (is : List LinkItem) → length (flatten (items_parts t is)) ≤ items_size is
unfolding items_parts items_size item_parts
items-few t [] = unfold flatten in omega arith
items-few t (i ∷ is) =
    let language = i.language_code in
    let r = i.promotional_text in
    let one = headed-few t (language.first ∷ language.second ∷ language.third ∷ low text_length r.length ∷ []) r in
    rw (flatten-append (item_parts t i) (items_parts t is), length-append) (omega (arith, one, items-few t is))

tail-few : (t : List ℕ) (f : LinkFields) → length (flatten (tail_parts t f)) ≤ tail_head + f.descriptors.length
unfolding tail_parts length_bytes
tail-few t f = headed-few t (length_bytes _ _) f.descriptors

pub parts-few : (t : List ℕ) (k : LinkInfo) → length (flatten (link_parts t k)) ≤ link_length k
unfolding link_length head_bytes field_bytes
parts-few t k =
    let f = k.fields in
    rw (link-flat t k) (simp length-append (omega (arith, uri-few t f.media_uri, locator-few f.dvb_binary_locator, items-few t (items_of k), tail-few t f)))
