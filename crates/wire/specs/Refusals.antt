-- The refusal numbers by name, as docs/REFUSALS.md has them. They are not consecutive: 26 and 27 are never given (docs/DECISIONS.md), and of 31 to 39 there are only 38 and 39 as yet.
-- Assumes nothing.
use Rattle.std.specs.Prelude.{ℕ}

-- fewer bytes than the smallest section of the table has
abbrev pub too_short : ℕ
too_short = 1

-- the first byte is not the table id of the related content section
abbrev pub not_rct : ℕ
not_rct = 2

-- the section is shorter than the smallest one, or longer than the bytes lent
abbrev pub wrong_length : ℕ
wrong_length = 3

-- the header of a link's entry is cut off
abbrev pub entry_cut : ℕ
entry_cut = 4

-- a link is longer than the payload has left
abbrev pub link_too_long : ℕ
link_too_long = 5

-- a link's body has fewer bytes than its fields
abbrev pub body_too_short : ℕ
body_too_short = 6

-- the length of the URI is cut off
abbrev pub uri_length_cut : ℕ
uri_length_cut = 7

-- the URI is cut off
abbrev pub uri_cut : ℕ
uri_cut = 8

-- there is no byte for the locator
abbrev pub no_locator : ℕ
no_locator = 9

-- the locator is cut off
abbrev pub locator_cut : ℕ
locator_cut = 10

-- the number of items is cut off
abbrev pub item_count_cut : ℕ
item_count_cut = 11

-- an item's language and length are cut off
abbrev pub item_cut : ℕ
item_cut = 12

-- an item's text is cut off
abbrev pub text_cut : ℕ
text_cut = 13

-- the icon and the length of a link's descriptors are cut off
abbrev pub icon_cut : ℕ
icon_cut = 14

-- a link's descriptors are longer than the link has left
abbrev pub descriptors_too_long : ℕ
descriptors_too_long = 15

-- bytes are left in a link behind its descriptors
abbrev pub link_slack : ℕ
link_slack = 16

-- the length of the descriptor loop is cut off
abbrev pub loop_cut : ℕ
loop_cut = 17

-- the descriptor loop is longer than the payload has left
abbrev pub loop_too_long : ℕ
loop_too_long = 18

-- bytes are left in the section behind its descriptor loop
abbrev pub section_slack : ℕ
section_slack = 19

-- the stored CRC is not the computed one
abbrev pub wrong_crc : ℕ
wrong_crc = 20

-- there is no link, item, provider or authority of that number
abbrev pub no_such_number : ℕ
no_such_number = 21

-- a number is above the widest that its field holds
abbrev pub too_wide : ℕ
too_wide = 22

-- URI or locator are present against the link type, or missing
abbrev pub against_type : ℕ
against_type = 23

-- windows are present against the rule, or missing
abbrev pub against_rule : ℕ
against_rule = 24

-- a range goes past the lent text
abbrev pub past_text : ℕ
past_text = 25

-- section_length is above the limit
abbrev pub section_too_long : ℕ
section_too_long = 28

-- the lent buffer has no room for the section
abbrev pub no_room : ℕ
no_room = 29

-- the section has as many links as its count can tell
abbrev pub no_more_links : ℕ
no_more_links = 30

-- section_syntax_indicator is not set
abbrev pub no_syntax_indicator : ℕ
no_syntax_indicator = 38

-- a descriptor of the section's loop is cut off
abbrev pub descriptor_cut : ℕ
descriptor_cut = 39

-- the first byte is not the table id of the resolution notification section
abbrev pub not_rnt : ℕ
not_rnt = 40

-- the common descriptors are longer than the payload has left
abbrev pub common_too_long : ℕ
common_too_long = 41

-- the length of a provider's info is cut off
abbrev pub provider_cut : ℕ
provider_cut = 42

-- a provider's info is longer than the payload has left
abbrev pub provider_too_long : ℕ
provider_too_long = 43

-- a provider's name, or the length of it, is cut off
abbrev pub provider_name_cut : ℕ
provider_name_cut = 44

-- a provider's descriptors, or the length of them, are cut off
abbrev pub provider_descriptors_cut : ℕ
provider_descriptors_cut = 45

-- an authority is cut off
abbrev pub authority_cut : ℕ
authority_cut = 46
