-- A link's record as numbers, and the record that numbers stand for.
-- Assumes nothing.
use Rattle.std.specs.Prelude.{ℕ, false, None, Some}
use Rattle.wire.specs.Choice.{pick, bit}
use Rattle.locator.specs.declared.DvbBinaryLocator.{DvbBinaryLocator}
use Rattle.locator.specs.declared.DvbLocatorService.TheVariants.{Triplet}
use Rattle.locator.specs.declared.DvbLocatorIdentifier.TheVariants.{None as NoIdentifier}
use Rattle.locator.specs.Syntax as syntax
use Rattle.link.specs.Records.{no_range}
use Rattle.link.specs.declared.Range.{Range}
use Rattle.link.specs.declared.LinkFields.{LinkFields}
use Rattle.link.specs.declared.LinkInfo.{LinkInfo}
use Rattle.link_draft.specs.Checks.{uri_here, locator_here}
use Rattle.flat_locator.specs.Flags.{is_set}
use Rattle.flat_locator.specs.Locators.{locator_flat, locator_of}
use Rattle.flat_locator.specs.declared.FlatLocator.{FlatLocator}
use Rattle.flat_link.specs.declared.FlatFields.{FlatFields}
use Rattle.flat_link.specs.declared.FlatLink.{FlatLink}
use Rattle.link.specs.Options.{LinkLocator, MediaUri}

-- ---- the numbers

abbrev pub uri_range : MediaUri → Range
uri_range None = no_range
uri_range (Some r) = r

-- where there is no locator stand the numbers of one with zeros
abbrev pub no_locator : DvbBinaryLocator
no_locator = syntax.locator_of false 0 0 (Triplet 0) 0 0 NoIdentifier None

abbrev pub place_flat : LinkLocator → FlatLocator
place_flat None = locator_flat no_locator
place_flat (Some l) = locator_flat l

unfoldable pub fields_flat : LinkFields → FlatFields
fields_flat k =
    record {
      reserved_link_info_length = k.reserved_link_info_length;
      link_type = k.link_type;
      reserved_link_type = k.reserved_link_type;
      how_related = k.how_related;
      term_id = k.term_id;
      group_id = k.group_id;
      precedence = k.precedence;
      has_media_uri = bit (uri_here k.media_uri);
      media_uri = uri_range k.media_uri;
      has_dvb_binary_locator = bit (locator_here k.dvb_binary_locator);
      dvb_binary_locator = place_flat k.dvb_binary_locator;
      reserved_number_items = k.reserved_number_items;
      number_items = k.number_items;
      default_icon_flag = bit k.default_icon_flag;
      icon_id = k.icon_id;
      descriptors = k.descriptors;
    }

unfoldable pub link_flat : LinkInfo → FlatLink
link_flat k = record { fields = fields_flat k.fields; items = k.items }

-- ---- what numbers stand for

abbrev pub uri_of : ℕ → Range → MediaUri
uri_of n r = pick (is_set n) (Some r) None

abbrev pub place_of : ℕ → FlatLocator → LinkLocator
place_of n f = pick (is_set n) (Some (locator_of f)) None

unfoldable pub fields_of : FlatFields → LinkFields
fields_of f =
    record {
      reserved_link_info_length = f.reserved_link_info_length;
      link_type = f.link_type;
      reserved_link_type = f.reserved_link_type;
      how_related = f.how_related;
      term_id = f.term_id;
      group_id = f.group_id;
      precedence = f.precedence;
      media_uri = uri_of f.has_media_uri f.media_uri;
      dvb_binary_locator = place_of f.has_dvb_binary_locator f.dvb_binary_locator;
      reserved_number_items = f.reserved_number_items;
      number_items = f.number_items;
      default_icon_flag = is_set f.default_icon_flag;
      icon_id = f.icon_id;
      descriptors = f.descriptors;
    }

unfoldable pub info_of : FlatLink → LinkInfo
info_of f = record { fields = fields_of f.fields; items = f.items }
