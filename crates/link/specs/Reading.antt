-- The reading of a link's body, a slice of its own: its verdict, row by row in reading order, and the link that it stands
-- for. Places are counted from the body's first byte; each is a total function of the bytes, and means something where
-- the rows before it are passed.
-- Assumes nothing.
use Rattle.std.specs.Prelude.{ℕ, zero, suc, ◌+◌, ◌/◌, Bool, List, [], ◌∷◌, eqb, ltb, length, get_or, drop, Err, Ok, Result}
use Rattle.std.proofs.Math.Option.{Option, none, some}
use Rattle.wire.specs.Choice.{pick}
use Rattle.wire.specs.Lists.{part}
use Rattle.field.specs.Fields.{low, how_related, term_id, link_type, link_type_reserved, group_id, precedence, number_items, number_items_reserved, icon_id}
use Rattle.length_field.specs.Lengths.{length_at, beside_at, last_verdict}
use Rattle.wire.specs.Numbers.{be16}
use Rattle.wire.specs.Refusals.{body_too_short, uri_length_cut, uri_cut, no_locator, item_count_cut, item_cut, text_cut, icon_cut, descriptors_too_long, link_slack}
use Rattle.wire.specs.Verdict.{refuse, ◌▷◌, Fine, Verdict}
use Rattle.locator.specs.Reading.{read_locator}
use Rattle.locator.specs.declared.DvbBinaryLocator.{DvbBinaryLocator}
use Rattle.link.specs.Syntax.{head_length, uri_head, count_length, language_length, item_head, Item, Link, uri_due, locator_due}
use Rattle.locator.specs.declared.reading.LocatorRead.{LocatorRead}
use Rattle.wire.specs.declared.verdict.Refusal.{Refusal}

-- ---- the fields of the first four bytes: a `/` says how many bits stand behind a field, `low` how many it has

abbrev pub type_at : List ℕ → ℕ
type_at xs = low link_type (get_or xs 0 0 / 16)

abbrev pub type_reserved_at : List ℕ → ℕ
type_reserved_at xs = low link_type_reserved (get_or xs 0 0 / 4)

abbrev pub how_related_at : List ℕ → ℕ
how_related_at xs = low how_related (be16 xs 0 / 16)

abbrev pub term_id_at : List ℕ → ℕ
term_id_at xs = low term_id (be16 xs 1)

abbrev pub group_id_at : List ℕ → ℕ
group_id_at xs = low group_id (get_or xs 3 0 / 16)

abbrev pub precedence_at : List ℕ → ℕ
precedence_at xs = low precedence (get_or xs 3 0)

-- ---- the places, and the fields that stand there

-- where a URI starts, behind the byte with its length
abbrev pub uri_start : ℕ
uri_start = head_length + uri_head

-- behind the URI, if there is one: a length byte, and as many bytes
abbrev pub uri_end_place : List ℕ → ℕ
uri_end_place xs = pick (uri_due (type_at xs)) (uri_start + get_or xs head_length 0) head_length

-- what a reading of a locator says: its verdict, the locator, the bytes used
abbrev pub locator_said : Result LocatorRead Refusal → Verdict
locator_said (Ok got) = Fine
locator_said (Err r) = Err r

abbrev pub locator_got : Result LocatorRead Refusal → Option DvbBinaryLocator
locator_got (Ok got) = some got.locator
locator_got (Err r) = none

abbrev pub locator_used : Result LocatorRead Refusal → ℕ
locator_used (Ok got) = got.used
locator_used (Err r) = 0

-- what is left of the link behind the URI is what a locator is read from: it is bounded by its link
abbrev pub locator_in : List ℕ → Result LocatorRead Refusal
locator_in xs = read_locator (drop (uri_end_place xs) xs)

-- behind the locator, if there is one: the byte with the number of items
abbrev pub count_place : List ℕ → ℕ
count_place xs = pick (locator_due (type_at xs)) (uri_end_place xs + locator_used (locator_in xs)) (uri_end_place xs)

abbrev pub item_count : List ℕ → ℕ
item_count xs = low number_items (get_or xs (count_place xs) 0)

abbrev pub items_reserved_at : List ℕ → ℕ
items_reserved_at xs = low number_items_reserved (get_or xs (count_place xs) 0 / 64)

-- the place of the first item
abbrev pub items_place : List ℕ → ℕ
items_place xs = count_place xs + count_length

-- the bytes of the text of an item at p, and the place behind it: three language bytes, a length byte, and as many bytes
abbrev pub text_size : List ℕ → ℕ → ℕ
text_size xs p = get_or xs (p + language_length) 0

abbrev pub item_end : List ℕ → ℕ → ℕ
item_end xs p = p + item_head + text_size xs p

-- the place of item n, or behind n items, the first of which is at p
abbrev pub item_place : ℕ → List ℕ → ℕ → ℕ
item_place zero xs p = p
item_place (suc n) xs p = item_place n xs (item_end xs p)

-- behind the items: default icon flag, icon and the descriptors
abbrev pub tail_place : List ℕ → ℕ
tail_place xs = item_place (item_count xs) xs (items_place xs)

abbrev pub default_icon_at : List ℕ → Bool
default_icon_at xs = eqb (beside_at xs (tail_place xs) / 8) 1

abbrev pub icon_id_at : List ℕ → ℕ
icon_id_at xs = low icon_id (beside_at xs (tail_place xs))

-- ---- the verdict: refusals 6 to 16

unfoldable pub uri_verdict : List ℕ → Verdict
uri_verdict xs =
    pick (uri_due (type_at xs))
    (refuse (ltb (length xs) uri_start) uri_length_cut uri_start (length xs)
    ▷ refuse (ltb (length xs) (uri_start + get_or xs head_length 0)) uri_cut (uri_start + get_or xs head_length 0) (length xs))
    Fine

unfoldable pub locator_rows : List ℕ → Verdict
locator_rows xs =
    pick (locator_due (type_at xs))
    (refuse (ltb (length xs) (uri_end_place xs + 1)) no_locator (uri_end_place xs + 1) (length xs) ▷ locator_said (locator_in xs))
    Fine

unfoldable pub count_verdict : List ℕ → Verdict
count_verdict xs = refuse (ltb (length xs) (items_place xs)) item_count_cut (items_place xs) (length xs)

unfoldable pub item_verdict : List ℕ → ℕ → Verdict
item_verdict xs p =
    refuse (ltb (length xs) (p + item_head)) item_cut (p + item_head) (length xs) ▷ refuse (ltb (length xs) (item_end xs p)) text_cut (item_end xs p) (length xs)

unfoldable pub items_verdict : ℕ → List ℕ → ℕ → Verdict
items_verdict zero xs p = Fine
items_verdict (suc n) xs p = item_verdict xs p ▷ items_verdict n xs (item_end xs p)

-- what stands before the items
unfoldable pub front_verdict : List ℕ → Verdict
front_verdict xs = refuse (ltb (length xs) head_length) body_too_short head_length (length xs) ▷ uri_verdict xs ▷ locator_rows xs ▷ count_verdict xs

-- the items, and what the body ends with
unfoldable pub rest_verdict : List ℕ → Verdict
rest_verdict xs = items_verdict (item_count xs) xs (items_place xs) ▷ last_verdict icon_cut descriptors_too_long link_slack xs (length xs) (tail_place xs)

unfoldable pub body_verdict : List ℕ → Verdict
body_verdict xs = front_verdict xs ▷ rest_verdict xs

-- ---- the link that a body stands for

abbrev pub item_at : List ℕ → ℕ → Item
item_at xs p =
    record {
      language = record { first = get_or xs p 0; second = get_or xs (p + 1) 0; third = get_or xs (p + 2) 0 };
      text = part xs (p + item_head) (text_size xs p);
    }

unfoldable pub items_at : ℕ → List ℕ → ℕ → List Item
items_at zero xs p = []
items_at (suc n) xs p = item_at xs p ∷ items_at n xs (item_end xs p)

-- the link of an entry whose four bits are r and whose body is xs
unfoldable pub link_at : ℕ → List ℕ → Link
link_at r xs =
    record {
      length_reserved = r;
      link_type = type_at xs;
      type_reserved = type_reserved_at xs;
      how_related = how_related_at xs;
      term_id = term_id_at xs;
      group_id = group_id_at xs;
      precedence = precedence_at xs;
      uri = pick (uri_due (type_at xs)) (some (part xs uri_start (get_or xs head_length 0))) none;
      locator = pick (locator_due (type_at xs)) (locator_got (locator_in xs)) none;
      items_reserved = items_reserved_at xs;
      items = items_at (item_count xs) xs (items_place xs);
      default_icon = default_icon_at xs;
      icon_id = icon_id_at xs;
      descriptors = part xs (tail_place xs + 2) (length_at xs (tail_place xs));
    }
