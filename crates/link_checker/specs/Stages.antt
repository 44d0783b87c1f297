-- What the private stages of the check answer: of the parts of a body that are ranges of the text, of the locator, and of
-- all besides the items' texts.
-- Assumes nothing.
use Rattle.std.specs.Prelude.{ℕ, ◌+◌, List}
use Rattle.field.specs.Fields.{icon_id, link_length_reserved, check_field}
use Rattle.field.specs.declared.Field.{Field}
use Rattle.wire.specs.Verdict.{◌▷◌, Fine, Verdict}
use Rattle.link.specs.Syntax.{head_length, count_length, item_head}
use Rattle.link.specs.declared.Range.{Range}
use Rattle.link.specs.declared.LinkItem.{LinkItem}
use Rattle.link.specs.declared.LinkFields.{LinkFields}
use Rattle.link_draft.specs.Checks.{first_in, check_presence, check_head, check_uri, check_locator_fields, check_count, check_text, check_end, check_locator_rule, check_range, check_uri_range, check_text_range}
use Rattle.link_draft.specs.Lengths.{tail_head, uri_size, locator_size, items_size}
use Rattle.link_draft.specs.declared.LinkChecked.{LinkChecked}
use Rattle.link_checker.specs.declared.RangesChecked.{RangesChecked}
use Rattle.link_checker.specs.declared.LocatorChecked.{LocatorChecked}
use Rattle.link.specs.Options.{LinkLocator, MediaUri}

-- ---- ranges of a text that has `have` bytes

abbrev pub no_ranges : RangesChecked
no_ranges = record { narrow = Fine; within = Fine; length = 0 }

-- these, then those
abbrev pub joined : RangesChecked → RangesChecked → RangesChecked
joined a b = record { narrow = a.narrow ▷ b.narrow; within = a.within ▷ b.within; length = a.length + b.length }

-- one, whose length the field holds, behind `head` bytes of its own
abbrev pub range_checked : ℕ → ℕ → Field → Range → RangesChecked
range_checked have head field r = record { narrow = check_field field r.length; within = check_range have r; length = head + r.length }

unfoldable pub uri_checked : ℕ → MediaUri → RangesChecked
uri_checked have u = record { narrow = check_uri u; within = check_uri_range have u; length = uri_size u }

unfoldable pub texts_checked : ℕ → List LinkItem → RangesChecked
texts_checked have is = record { narrow = first_in check_text is; within = first_in (check_text_range have) is; length = items_size is }

-- the most bytes of one: the longest head, and a number of 32 bits
abbrev pub most_range : ℕ
most_range = item_head + 0xFFFF_FFFF

-- ---- the locator

unfoldable pub locator_checked : LinkLocator → LocatorChecked
locator_checked m = record { narrow = check_locator_fields m; rule = check_locator_rule m; length = locator_size m }

-- ---- all, with what was found of the URI's length, the locator's fields, the texts' lengths and the descriptors' length

unfoldable pub fields_checked : LinkFields → Verdict → Verdict → Verdict → Verdict → Verdict
fields_checked f uri locator texts descriptors =
    check_head f
    ▷ uri
    ▷ locator
    ▷ check_count f
    ▷ texts
    ▷ descriptors
    ▷ check_field icon_id f.icon_id
    ▷ check_field link_length_reserved f.reserved_link_info_length

-- with what was found of the texts
unfoldable pub all_checked : ℕ → LinkFields → RangesChecked → LinkChecked
all_checked have f texts =
    record {
      verdict =
          check_presence f
          ▷ (check_head f ▷ check_uri f.media_uri ▷ check_locator_fields f.dvb_binary_locator ▷ check_count f ▷ texts.narrow ▷ check_end f)
          ▷ check_locator_rule f.dvb_binary_locator
          ▷ (check_uri_range have f.media_uri ▷ texts.within ▷ check_range have f.descriptors);
      length =
          head_length + uri_size f.media_uri + locator_size f.dvb_binary_locator + count_length + texts.length + (tail_head + f.descriptors.length);
    }
