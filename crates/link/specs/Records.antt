-- A link's record, as the code carries it: the link that it stands for with a text, and the record of a body that is read,
-- whose ranges are counted from a base, the body's place in the text.
-- Assumes nothing.
use Rattle.std.specs.Prelude.{ℕ, zero, suc, ◌+◌, ◌-◌, false, List, [], ◌∷◌, ◌++◌, map, length, get_or, take, replicate, Err, None, Ok, Result, Some}
use Rattle.std.proofs.Math.Option.{Option, none, some}
use Rattle.wire.specs.Choice.{pick}
use Rattle.wire.specs.Lists.{part}
use Rattle.length_field.specs.Lengths.{length_at}
use Rattle.field.specs.Fields.{link_type_reserved, number_items, number_items_reserved, link_length_reserved}
use Rattle.locator.specs.declared.DvbBinaryLocator.{DvbBinaryLocator}
use Rattle.link.specs.Syntax.{head_length, item_head, Item, Link, uri_due, locator_due}
use Rattle.link.specs.Reading.{type_at, type_reserved_at, how_related_at, term_id_at, group_id_at, precedence_at, uri_start, locator_in, items_place, item_count, items_reserved_at, text_size, item_end, tail_place, default_icon_at, icon_id_at}
use Rattle.link.specs.declared.Range.{Range}
use Rattle.link.specs.declared.LinkItem.{LinkItem}
use Rattle.link.specs.declared.LinkFields.{LinkFields}
use Rattle.link.specs.declared.LinkInfo.{LinkInfo}
use Rattle.link.specs.Options.{LinkLocator, MediaUri}
use Rattle.locator.specs.declared.reading.LocatorRead.{LocatorRead}
use Rattle.wire.specs.declared.verdict.Refusal.{Refusal}

-- ---- the link that a record stands for, with the text that its ranges are of

abbrev pub range_of : List ℕ → Range → List ℕ
range_of t r = part t r.start r.length

abbrev pub item_of : List ℕ → LinkItem → Item
item_of t i = record { language = i.language_code; text = range_of t i.promotional_text }

abbrev pub uri_of : List ℕ → MediaUri → Option (List ℕ)
uri_of t None = none
uri_of t (Some r) = some (range_of t r)

abbrev pub locator_of : LinkLocator → Option DvbBinaryLocator
locator_of None = none
locator_of (Some l) = some l

-- the items that count: those past their number mean nothing
abbrev pub items_of : LinkInfo → List LinkItem
items_of k = take k.fields.number_items k.items

unfoldable pub link_of : List ℕ → LinkInfo → Link
link_of t k =
    record {
      length_reserved = k.fields.reserved_link_info_length;
      link_type = k.fields.link_type;
      type_reserved = k.fields.reserved_link_type;
      how_related = k.fields.how_related;
      term_id = k.fields.term_id;
      group_id = k.fields.group_id;
      precedence = k.fields.precedence;
      uri = uri_of t k.fields.media_uri;
      locator = locator_of k.fields.dvb_binary_locator;
      items_reserved = k.fields.reserved_number_items;
      items = map (item_of t) (items_of k);
      default_icon = k.fields.default_icon_flag;
      icon_id = k.fields.icon_id;
      descriptors = range_of t k.fields.descriptors;
    }

-- ---- the record of a body that is read

abbrev pub no_range : Range
no_range = record { start = 0; length = 0 }

abbrev pub no_item : LinkItem
no_item = record { language_code = record { first = 0; second = 0; third = 0 }; promotional_text = no_range }

-- up to as many items as a record holds, each unused one empty
abbrev pub filled : List LinkItem → List LinkItem
filled is = is ++ replicate (number_items.widest - length is) no_item

-- the fields of nothing, and the record of nothing: what stands beside a refusal
unfoldable pub no_fields : LinkFields
no_fields =
    record {
      reserved_link_info_length = 0;
      link_type = 0;
      reserved_link_type = 0;
      how_related = 0;
      term_id = 0;
      group_id = 0;
      precedence = 0;
      media_uri = None;
      dvb_binary_locator = None;
      reserved_number_items = 0;
      number_items = 0;
      default_icon_flag = false;
      icon_id = 0;
      descriptors = no_range;
    }

unfoldable pub no_link : LinkInfo
no_link = record { fields = no_fields; items = replicate number_items.widest no_item }

-- fields with their reserved bits set to ones
unfoldable pub ones_fields : LinkFields → LinkFields
ones_fields k =
    record {
      reserved_link_info_length = link_length_reserved.widest;
      link_type = k.link_type;
      reserved_link_type = link_type_reserved.widest;
      how_related = k.how_related;
      term_id = k.term_id;
      group_id = k.group_id;
      precedence = k.precedence;
      media_uri = k.media_uri;
      dvb_binary_locator = k.dvb_binary_locator;
      reserved_number_items = number_items_reserved.widest;
      number_items = k.number_items;
      default_icon_flag = k.default_icon_flag;
      icon_id = k.icon_id;
      descriptors = k.descriptors;
    }

-- the item at p, and n items from p on
abbrev pub item_info : ℕ → List ℕ → ℕ → LinkItem
item_info base xs p =
    record {
      language_code = record { first = get_or xs p 0; second = get_or xs (p + 1) 0; third = get_or xs (p + 2) 0 };
      promotional_text = record { start = base + (p + item_head); length = text_size xs p };
    }

unfoldable pub item_infos : ℕ → ℕ → List ℕ → ℕ → List LinkItem
item_infos base zero xs p = []
item_infos base (suc n) xs p = item_info base xs p ∷ item_infos base n xs (item_end xs p)

abbrev pub uri_info : ℕ → List ℕ → MediaUri
uri_info base xs = pick (uri_due (type_at xs)) (Some (record { start = base + uri_start; length = get_or xs head_length 0 })) None

abbrev pub locator_held : Result LocatorRead Refusal → LinkLocator
locator_held (Ok got) = Some got.locator
locator_held (Err r) = None

abbrev pub locator_info : List ℕ → LinkLocator
locator_info xs = pick (locator_due (type_at xs)) (locator_held (locator_in xs)) None

-- the fields of a body, whose entry has the four bits r
unfoldable pub fields_at : ℕ → ℕ → List ℕ → LinkFields
fields_at base r xs =
    record {
      reserved_link_info_length = r;
      link_type = type_at xs;
      reserved_link_type = type_reserved_at xs;
      how_related = how_related_at xs;
      term_id = term_id_at xs;
      group_id = group_id_at xs;
      precedence = precedence_at xs;
      media_uri = uri_info base xs;
      dvb_binary_locator = locator_info xs;
      reserved_number_items = items_reserved_at xs;
      number_items = item_count xs;
      default_icon_flag = default_icon_at xs;
      icon_id = icon_id_at xs;
      descriptors = record { start = base + (tail_place xs + 2); length = length_at xs (tail_place xs) };
    }

-- its record, all items filled in
unfoldable pub info_at : ℕ → ℕ → List ℕ → LinkInfo
info_at base r xs = record { fields = fields_at base r xs; items = filled (item_infos base (item_count xs) xs (items_place xs)) }
