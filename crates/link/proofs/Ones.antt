-- Fields with their reserved bits set to ones: the ones stand where the syntax has them, every other bit stays, and what fitted fits.
-- Assumes nothing.
use Prim.Native.Nat.{ℕ, ◌+◌, ◌*◌, ◌/◌, ◌%◌, ◌≤◌}
use mathlib.Core.Path.{◌≡◌, refl}
use native.Mathlib.Omega.{arith}
use mathlib.Core.List.{List, [], ◌∷◌, ◌++◌}
use lib.ListN.{length}
use Rattle.length_field.specs.Lengths.{block_bytes}
use Rattle.link.specs.Syntax.{Link, LinkFits, field_bytes, uri_bytes, locator_part, items_bytes, tail_of, link_body, entry_of}
use Rattle.link.specs.Records.{ones_fields, link_of}
use Rattle.link.specs.declared.LinkInfo.{LinkInfo}

-- the record with other fields
abbrev ones : LinkInfo → LinkInfo
ones k = record { fields = ones_fields k.fields; items = k.items }

module _ (t : List ℕ) (k : LinkInfo) where
  abbrev old : Link
  old = link_of t k

  -- the four bits before link_info_length
  pub ones-entry : (entry_of (link_of t (ones k))).beside ≡ 15
  unfolding link_of ones_fields
  ones-entry = refl

  -- the two behind link_type, and the two before number_items; all else is the old link's
  pub ones-body : link_body (link_of t (ones k))
      ≡ ((old.link_type * 16 + 3 * 4 + old.how_related / 16)
      ∷ (old.how_related % 16 * 16 + old.term_id / 256)
      ∷ (old.term_id % 256)
      ∷ (old.group_id * 16 + old.precedence)
      ∷ [])
      ++ (uri_bytes old.uri ++ (locator_part old.locator ++ (((3 * 64 + length old.items) ∷ items_bytes old.items) ++ block_bytes (tail_of old))))
  unfolding link_of ones_fields link_body field_bytes
  ones-body = refl

  pub ones-fits : LinkFits old → LinkFits (link_of t (ones k))
  unfolding link_of ones_fields
  ones-fits f =
      record {
        length_reserved = omega arith;
        link_type = f.link_type;
        type_reserved = omega arith;
        how_related = f.how_related;
        term_id = f.term_id;
        group_id = f.group_id;
        precedence = f.precedence;
        uri_here = f.uri_here;
        uri = f.uri;
        locator_here = f.locator_here;
        locator = f.locator;
        items_reserved = omega arith;
        count = f.count;
        items = f.items;
        icon_id = f.icon_id;
        short = f.short;
        descriptors = f.descriptors;
      }
