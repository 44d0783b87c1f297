-- The fields that refusal 22 names (docs/REFUSALS.md): each with its rank, which is its place in that list, and its widest number. The widths are those of ETSI TS 102 323,
-- Tables 31, 109 and 110: a field of n bits holds at most 2^n - 1.
-- Assumes nothing.
use Rattle.std.specs.Prelude.{ℕ, ◌+◌, ◌-◌, ◌%◌, List, [], ◌∷◌, eqb, ltb, leb, length, get_or, None, Option, Some}
use Rattle.wire.specs.Choice.{pick}
use Rattle.length_field.specs.Lengths.{longest, widest_beside}
use Rattle.wire.specs.Refusals.{too_wide}
use Rattle.wire.specs.Verdict.{refuse, Verdict}
use Rattle.field.specs.declared.Field.{Field}

abbrev field : ℕ → ℕ → Field
field p w = record { rank = p; widest = w }

-- how_related_classification_scheme_id, 6 bits
abbrev pub how_related : Field
how_related = field 1 63

-- term_id, 12 bits
abbrev pub term_id : Field
term_id = field 2 4095

-- link_type, 4 bits
abbrev pub link_type : Field
link_type = field 3 15

-- the 2 bits behind link_type
abbrev pub link_type_reserved : Field
link_type_reserved = field 4 3

-- group_id, 4 bits
abbrev pub group_id : Field
group_id = field 5 15

-- precedence, 4 bits
abbrev pub precedence : Field
precedence = field 6 15

-- media_uri_length, 8 bits
abbrev pub uri_length : Field
uri_length = field 7 255

-- start_date, 9 bits
abbrev pub start_date : Field
start_date = field 8 511

-- the bit before start_date
abbrev pub locator_reserved : Field
locator_reserved = field 9 1

-- DVB_service_triplet_ID, 10 bits
abbrev pub triplet_id : Field
triplet_id = field 10 1023

-- the 2 bits beside an inline service
abbrev pub inline_reserved : Field
inline_reserved = field 11 3

-- early_start_window, 3 bits
abbrev pub early_start : Field
early_start = field 12 7

-- late_end_window, 5 bits
abbrev pub late_end : Field
late_end = field 13 31

-- number_items, 6 bits
abbrev pub number_items : Field
number_items = field 14 63

-- the 2 bits before number_items
abbrev pub number_items_reserved : Field
number_items_reserved = field 15 3

-- promotional_text_length, 8 bits
abbrev pub text_length : Field
text_length = field 16 255

-- the length of a link's descriptors, 12 bits
abbrev pub descriptor_length : Field
descriptor_length = field 17 longest

-- icon_id, 3 bits
abbrev pub icon_id : Field
icon_id = field 18 7

-- the 4 bits before link_info_length
abbrev pub link_length_reserved : Field
link_length_reserved = field 19 widest_beside

-- the 2 bits before section_length
abbrev pub section_reserved : Field
section_reserved = field 20 3

-- version_number, 5 bits
abbrev pub version_number : Field
version_number = field 21 31

-- the 2 bits before version_number
abbrev pub version_reserved : Field
version_reserved = field 22 3

-- descriptor_loop_length, 12 bits
abbrev pub loop_length : Field
loop_length = field 23 longest

-- the 4 bits before descriptor_loop_length
abbrev pub loop_length_reserved : Field
loop_length_reserved = field 24 widest_beside

-- the list, from rank 1 on
abbrev pub fields : List Field
fields =
    how_related
    ∷ term_id
    ∷ link_type
    ∷ link_type_reserved
    ∷ group_id
    ∷ precedence
    ∷ uri_length
    ∷ start_date
    ∷ locator_reserved
    ∷ triplet_id
    ∷ inline_reserved
    ∷ early_start
    ∷ late_end
    ∷ number_items
    ∷ number_items_reserved
    ∷ text_length
    ∷ descriptor_length
    ∷ icon_id
    ∷ link_length_reserved
    ∷ section_reserved
    ∷ version_number
    ∷ version_reserved
    ∷ loop_length
    ∷ loop_length_reserved
    ∷ []

-- the field of a rank
abbrev pub ranked : ℕ → Option Field
ranked p = pick (eqb p 0) None (pick (leb (length fields) (p - 1)) None (Some (get_or fields (p - 1) (field 0 0))))

-- fine, or 22 with the field's rank and the number that is too wide for it
unfoldable pub check_field : Field → ℕ → Verdict
check_field f n = refuse (ltb f.widest n) too_wide f.rank n

-- the lowest bits of a number, as many as the field has
abbrev pub low : Field → ℕ → ℕ
low f n = n % (f.widest + 1)
