-- Each number of a flat record stands under its own name: what round trips leave open, that two numbers change places both ways, is ruled out.
-- Assumes nothing.
use mathlib.Core.Path.{◌≡◌, refl}
use Rattle.wire.specs.Choice.{bit}
use Rattle.locator.specs.declared.DvbBinaryLocator.{DvbBinaryLocator}
use Rattle.link.specs.Records.{no_range}
use Rattle.link.specs.declared.Range.{Range}
use Rattle.link.specs.declared.LinkFields.{LinkFields}
use Rattle.link.specs.declared.LinkInfo.{LinkInfo}
use Rattle.flat_locator.specs.Locators.{locator_flat}
use Rattle.flat_link.specs.Links.{no_locator, fields_flat, link_flat}
use Rattle.flat_link.specs.declared.FlatFields.{FlatFields}
use Rattle.std.specs.Prelude.{None, Some}

-- the numbers that are there in every link
pub record FieldsNames (k : LinkFields) (f : FlatFields) : Type 0 where
  pub length_reserved : f.reserved_link_info_length ≡ k.reserved_link_info_length
  pub type : f.link_type ≡ k.link_type
  pub type_reserved : f.reserved_link_type ≡ k.reserved_link_type
  pub related : f.how_related ≡ k.how_related
  pub term : f.term_id ≡ k.term_id
  pub group : f.group_id ≡ k.group_id
  pub precedence : f.precedence ≡ k.precedence
  pub items_reserved : f.reserved_number_items ≡ k.reserved_number_items
  pub items : f.number_items ≡ k.number_items
  pub default_icon : f.default_icon_flag ≡ bit k.default_icon_flag
  pub icon : f.icon_id ≡ k.icon_id
  pub descriptors : f.descriptors ≡ k.descriptors

pub fields-names : (k : LinkFields) → FieldsNames k (fields_flat k)
unfolding fields_flat
fields-names k =
    record {
      length_reserved = refl;
      type = refl;
      type_reserved = refl;
      related = refl;
      term = refl;
      group = refl;
      precedence = refl;
      items_reserved = refl;
      items = refl;
      default_icon = refl;
      icon = refl;
      descriptors = refl;
    }

-- a URI and a locator, where they are, and where they are not
module _ (k : LinkFields) where
  pub uri-present : (r : Range) → k.media_uri ≡ Some r → ((fields_flat k).has_media_uri ≡ 1) × ((fields_flat k).media_uri ≡ r)
  unfolding fields_flat
  uri-present r e = (rw e refl, rw e refl)

  pub uri-absent : k.media_uri ≡ None → ((fields_flat k).has_media_uri ≡ 0) × ((fields_flat k).media_uri ≡ no_range)
  unfolding fields_flat
  uri-absent e = (rw e refl, rw e refl)

  pub locator-present : (l : DvbBinaryLocator) → k.dvb_binary_locator ≡ Some l
      → ((fields_flat k).has_dvb_binary_locator ≡ 1) × ((fields_flat k).dvb_binary_locator ≡ locator_flat l)
  unfolding fields_flat
  locator-present l e = (rw e refl, rw e refl)

  pub locator-absent : k.dvb_binary_locator ≡ None
      → ((fields_flat k).has_dvb_binary_locator ≡ 0) × ((fields_flat k).dvb_binary_locator ≡ locator_flat no_locator)
  unfolding fields_flat
  locator-absent e = (rw e refl, rw e refl)

-- the items are the library's own
pub items-same : (k : LinkInfo) → (link_flat k).items ≡ k.items
unfolding link_flat
items-same k = refl
