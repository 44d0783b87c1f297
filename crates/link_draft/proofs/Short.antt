-- How long the body of a record that passes its checks can be.
-- Assumes nothing.
use Prim.Native.Nat.{ℕ, ◌+◌, ◌*◌, ◌≤◌, ◌<◌}
use mathlib.Core.Path.{◌≡◌}
use mathlib.Core.List.{List, [], ◌∷◌}
use native.Mathlib.Omega.{arith}
use lib.ListN.{length, length-take}
use Rattle.field.specs.Fields.{uri_length, number_items, text_length}
use Rattle.field.proofs.Checks.{field-passed}
use Rattle.wire.proofs.Verdicts.{then-fine}
use Rattle.locator.specs.Writing.{longest_written}
use Rattle.locator.proofs.Written.{length_most}
use Rattle.link.specs.Syntax.{uri_head, item_head}
use Rattle.link.specs.Records.{items_of}
use Rattle.link.specs.declared.LinkItem.{LinkItem}
use Rattle.link.specs.declared.LinkInfo.{LinkInfo}
use Rattle.link_draft.specs.Checks.{first_in, check_uri, check_text, check_link}
use Rattle.link_draft.specs.Lengths.{uri_size, locator_size, items_size, link_length}
use Rattle.link_draft.proofs.Exact.{passed}
use Rattle.link.specs.Options.{LinkLocator, MediaUri}
use Rattle.std.specs.Prelude.{None, Some}
use Rattle.wire.specs.Verdict.{Fine}

items-short : (is : List LinkItem) → first_in check_text is ≡ Fine → items_size is ≤ length is * (item_head + text_length.widest)
unfolding first_in items_size
items-short [] e = omega arith
items-short (i ∷ is) e =
    let two = then-fine (check_text i) (first_in check_text is) e in
    omega (arith, field-passed text_length i.promotional_text.length two.0, items-short is two.1)

uri-short : (u : MediaUri) → check_uri u ≡ Fine → uri_size u ≤ uri_head + uri_length.widest
unfolding check_uri uri_size
uri-short None e = omega arith
uri-short (Some r) e = omega (arith, field-passed uri_length r.length e)

-- whatever the locator
locator-size-short : (m : LinkLocator) → locator_size m ≤ longest_written
unfolding locator_size
locator-size-short None = omega arith
locator-size-short (Some l) = length_most l

-- its length is a number of 16 bits, so that sums with lengths of a section stay far below a word
pub checked-short : (t : List ℕ) (k : LinkInfo) → check_link t k ≡ Fine → link_length k < 65536
unfolding link_length
checked-short t k e =
    let p = passed t k e in
    let f = k.fields in
    let n : length (items_of k) ≤ number_items.widest = rw (length-take f.number_items k.items) (omega (arith, p.stands.count)) in
    omega (arith, uri-short f.media_uri p.uri, locator-size-short f.dvb_binary_locator, items-short (items_of k) p.texts, p.end.short)
