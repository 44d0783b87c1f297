-- The syntax of a link (ETSI TS 102 323, 10.4.3, Table 110): the bytes of its body from its fields, and which links have
-- bytes. A link here has the bytes of its URI, texts and descriptors themselves, as lists.
-- Assumes nothing.
use Rattle.std.specs.Prelude.{ℕ, ◌+◌, ◌*◌, ◌/◌, ◌%◌, ◌≤◌, ◌<◌, ◌≡◌, Bool, true, false, List, [], ◌∷◌, ◌++◌, eqb, length}
use Rattle.std.proofs.Math.Option.{Option, none, some}
use Rattle.wire.specs.Choice.{pick, bit}
use Rattle.wire.specs.Lists.{Bytes}
use Rattle.length_field.specs.Lengths.{Block, block_bytes}
use Rattle.field.specs.Fields.{how_related, term_id, link_type, link_type_reserved, group_id, precedence, uri_length, number_items, number_items_reserved, text_length, descriptor_length, icon_id, link_length_reserved}
use Rattle.locator.specs.Syntax.{Fits, locator_bytes}
use Rattle.locator.specs.declared.DvbBinaryLocator.{DvbBinaryLocator}
use Rattle.link.specs.declared.LangCode.{LangCode}

-- a promotional text and its language
pub record Item : Type 0 where
  pub language : LangCode
  pub text : List ℕ

pub record Link : Type 0 where
  -- the four bits before link_info_length, which stand before the body
  pub length_reserved : ℕ
  pub link_type : ℕ
  pub type_reserved : ℕ
  pub how_related : ℕ
  pub term_id : ℕ
  pub group_id : ℕ
  pub precedence : ℕ
  pub uri : Option (List ℕ)
  pub locator : Option DvbBinaryLocator
  pub items_reserved : ℕ
  pub items : List Item
  pub default_icon : Bool
  pub icon_id : ℕ
  pub descriptors : List ℕ

-- ---- how long its parts are, in bytes: link_type to precedence; media_uri_length; number_items with its reserved bits;
-- ISO_639_language_code; an item's language and promotional_text_length

abbrev pub head_length : ℕ
head_length = 4

abbrev pub uri_head : ℕ
uri_head = 1

abbrev pub count_length : ℕ
count_length = 1

abbrev pub language_length : ℕ
language_length = 3

abbrev pub item_head : ℕ
item_head = language_length + 1

-- ---- which link types have what (Table 111): 0 a URI, 1 a locator, 2 both, 3 and the reserved ones neither

abbrev pub uri_due : ℕ → Bool
uri_due t = pick (eqb t 0) true (eqb t 2)

abbrev pub locator_due : ℕ → Bool
locator_due t = pick (eqb t 1) true (eqb t 2)

abbrev pub here : {A : Type 0} → Option A → Bool
here none = false
here (some a) = true

-- ---- the bytes

-- link_type 4, reserved 2, how_related 6, term_id 12, group_id 4, precedence 4
unfoldable pub field_bytes : Link → List ℕ
field_bytes l =
    (l.link_type * 16 + l.type_reserved * 4 + l.how_related / 16)
    ∷ (l.how_related % 16 * 16 + l.term_id / 256)
    ∷ (l.term_id % 256)
    ∷ (l.group_id * 16 + l.precedence)
    ∷ []

-- media_uri_length 8, and as many bytes
unfoldable pub uri_bytes : Option (List ℕ) → List ℕ
uri_bytes none = []
uri_bytes (some u) = length u ∷ u

unfoldable pub locator_part : Option DvbBinaryLocator → List ℕ
locator_part none = []
locator_part (some l) = locator_bytes l

-- ISO_639_language_code 24, promotional_text_length 8, and as many bytes
unfoldable pub item_bytes : Item → List ℕ
item_bytes i = i.language.first ∷ i.language.second ∷ i.language.third ∷ length i.text ∷ i.text

unfoldable pub items_bytes : List Item → List ℕ
items_bytes [] = []
items_bytes (i ∷ is) = item_bytes i ++ items_bytes is

-- default_icon_flag 1, icon_id 3, descriptor_loop_length 12, descriptors
abbrev pub tail_of : Link → Block
tail_of l = record { beside = bit l.default_icon * 8 + l.icon_id; body = l.descriptors }

unfoldable pub link_body : Link → List ℕ
link_body l =
    field_bytes l
    ++ (uri_bytes l.uri
    ++ (locator_part l.locator ++ (((l.items_reserved * 64 + length l.items) ∷ items_bytes l.items) ++ block_bytes (tail_of l))))

-- the entry of a link: the four bits, the body's length, the body
abbrev pub entry_of : Link → Block
entry_of l = record { beside = l.length_reserved; body = link_body l }

-- ---- what fits: each field is within its width, and what is there agrees with the link type

abbrev pub UriFits : Option (List ℕ) → Type 0
UriFits none = Unit
UriFits (some u) = (length u ≤ uri_length.widest) × Bytes u

abbrev pub LocatorFits : Option DvbBinaryLocator → Type 0
LocatorFits none = Unit
LocatorFits (some l) = Fits l

pub record ItemFits (i : Item) : Type 0 where
  pub first : i.language.first < 256
  pub second : i.language.second < 256
  pub third : i.language.third < 256
  pub short : length i.text ≤ text_length.widest
  pub bytes : Bytes i.text

abbrev pub ItemsFit : List Item → Type 0
ItemsFit [] = Unit {0}
ItemsFit (i ∷ is) = ItemFits i × ItemsFit is

pub record LinkFits (l : Link) : Type 0 where
  pub length_reserved : l.length_reserved ≤ link_length_reserved.widest
  pub link_type : l.link_type ≤ link_type.widest
  pub type_reserved : l.type_reserved ≤ link_type_reserved.widest
  pub how_related : l.how_related ≤ how_related.widest
  pub term_id : l.term_id ≤ term_id.widest
  pub group_id : l.group_id ≤ group_id.widest
  pub precedence : l.precedence ≤ precedence.widest
  pub uri_here : here l.uri ≡ uri_due l.link_type
  pub uri : UriFits l.uri
  pub locator_here : here l.locator ≡ locator_due l.link_type
  pub locator : LocatorFits l.locator
  pub items_reserved : l.items_reserved ≤ number_items_reserved.widest
  pub count : length l.items ≤ number_items.widest
  pub items : ItemsFit l.items
  pub icon_id : l.icon_id ≤ icon_id.widest
  pub short : length l.descriptors ≤ descriptor_length.widest
  pub descriptors : Bytes l.descriptors
