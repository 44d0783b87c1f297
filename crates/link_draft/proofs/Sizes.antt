-- The parts of a body are as long as the record says.
-- Assumes nothing.
use Prim.Native.Nat.{ℕ, ◌+◌, ◌*◌}
use mathlib.Core.Path.{◌≡◌, refl}
use mathlib.Core.List.{List, [], ◌∷◌, ◌++◌, map}
use native.Mathlib.Omega.{arith}
use lib.ListN.{length, length-append}
use Rattle.length_field.specs.Lengths.{block_bytes}
use Rattle.wire.proofs.Lists.{length_part}
use Rattle.length_field.proofs.Blocks.{block-length}
use Rattle.locator.proofs.Sizes.{bytes-length}
use Rattle.link.specs.Syntax.{item_head, field_bytes, uri_bytes, locator_part, item_bytes, items_bytes, tail_of, link_body}
use Rattle.link.specs.Records.{range_of, item_of, uri_of, locator_of, items_of, link_of}
use Rattle.link.specs.declared.Range.{Range}
use Rattle.link.specs.declared.LinkItem.{LinkItem}
use Rattle.link.specs.declared.LinkInfo.{LinkInfo}
use Rattle.link_draft.specs.Lengths.{uri_size, locator_size, items_size, link_length}
use Rattle.link_draft.specs.Carried.{Each, Within, UriWithin, TextWithin, RangesWithin}
use Rattle.link.specs.Options.{LinkLocator, MediaUri}
use Rattle.std.specs.Prelude.{None, Some}

-- a range that lies in the text has as many bytes as it says
pub range_length : (t : List ℕ) (r : Range) → Within t r → length (range_of t r) ≡ r.length
range_length t r h = length_part t r.start r.length h

uri-length : (t : List ℕ) (u : MediaUri) → UriWithin t u → length (uri_bytes (uri_of t u)) ≡ uri_size u
unfolding uri_bytes uri_size
uri-length t None w = refl
uri-length t (Some r) w = omega (arith, range_length t r w)

locator-length : (m : LinkLocator) → length (locator_part (locator_of m)) ≡ locator_size m
unfolding locator_part locator_size
locator-length None = refl
locator-length (Some l) = bytes-length l

item-length : (t : List ℕ) (i : LinkItem) → TextWithin t i → length (item_bytes (item_of t i)) ≡ item_head + i.promotional_text.length
unfolding item_bytes
item-length t i w = omega (arith, range_length t i.promotional_text w)

items-length : (t : List ℕ) (is : List LinkItem) → Each (TextWithin t) is → length (items_bytes (map (item_of t) is)) ≡ items_size is
unfolding items_bytes items_size
items-length t [] w = refl
items-length t (i ∷ is) w =
    omega (arith, length-append (item_bytes (item_of t i)) (items_bytes (map (item_of t) is)), item-length t i w.0, items-length t is w.1)

-- a record whose ranges lie in the text has a body of the length that the record says
pub length_is : (t : List ℕ) (k : LinkInfo) → RangesWithin t k → length (link_body (link_of t k)) ≡ link_length k
unfolding link_body link_of field_bytes link_length
length_is t k w =
    let l = link_of t k in
    let U = uri_bytes l.uri in
    let P = locator_part l.locator in
    let N = l.items_reserved * 64 + length l.items in
    let I = items_bytes l.items in
    let T = block_bytes (tail_of l) in
    omega (
      arith,
      length-append U (P ++ ((N ∷ I) ++ T)),
      length-append P ((N ∷ I) ++ T),
      length-append I T,
      block-length (tail_of l),
      uri-length t k.fields.media_uri w.uri,
      locator-length k.fields.dvb_binary_locator,
      items-length t (items_of k) w.texts,
      range_length t k.fields.descriptors w.descriptors,
    )
