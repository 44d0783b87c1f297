-- What is known of a record besides its checks: what the code's types say of it, as far as its link's bytes need it, and
-- that it stands for a link with a text, which holds every range and no more items than the record's array.
-- Assumes nothing.
use Rattle.std.specs.Prelude.{ℕ, ◌+◌, ◌≤◌, ◌<◌, List, [], ◌∷◌, length, None, Some}
use Rattle.field.specs.Fields.{how_related, term_id, link_type, link_type_reserved, group_id, precedence, number_items, descriptor_length, icon_id, link_length_reserved}
use Rattle.locator.specs.Syntax as syntax
use Rattle.link.specs.Records.{items_of}
use Rattle.link.specs.declared.Range.{Range}
use Rattle.link.specs.declared.LinkItem.{LinkItem}
use Rattle.link.specs.declared.LinkFields.{LinkFields}
use Rattle.link.specs.declared.LinkInfo.{LinkInfo}
use Rattle.link.specs.Options.{LinkLocator, MediaUri}

abbrev pub Each : {A : Type 0} → (A → Type 0) → List A → Type 0
Each P [] = Unit {0}
Each P (x ∷ xs) = P x × Each P xs

-- ---- what the types say: whole bytes and numbers of 16 bits, which no check is about

pub record ItemCarried (i : LinkItem) : Type 0 where
  pub first : i.language_code.first < 256
  pub second : i.language_code.second < 256
  pub third : i.language_code.third < 256

abbrev pub LocatorCarried : LinkLocator → Type 0
LocatorCarried None = Unit
LocatorCarried (Some l) = syntax.Carried l

pub record Carried (k : LinkInfo) : Type 0 where
  pub locator : LocatorCarried k.fields.dvb_binary_locator
  pub items : Each ItemCarried k.items

-- ---- what 22 says of the fields before the URI and behind the items, which a writer puts into shared bytes

pub record HeadNarrow (f : LinkFields) : Type 0 where
  pub related : f.how_related ≤ how_related.widest
  pub term : f.term_id ≤ term_id.widest
  pub type : f.link_type ≤ link_type.widest
  pub reserved : f.reserved_link_type ≤ link_type_reserved.widest
  pub group : f.group_id ≤ group_id.widest
  pub precedence : f.precedence ≤ precedence.widest

pub record EndNarrow (f : LinkFields) : Type 0 where
  pub short : f.descriptors.length ≤ descriptor_length.widest
  pub icon : f.icon_id ≤ icon_id.widest
  pub beside : f.reserved_link_info_length ≤ link_length_reserved.widest

-- ---- that it stands for a link with the text t

abbrev pub Within : List ℕ → Range → Type 0
Within t r = r.start + r.length ≤ length t

abbrev pub UriWithin : List ℕ → MediaUri → Type 0
UriWithin t None = Unit
UriWithin t (Some r) = Within t r

abbrev pub TextWithin : List ℕ → LinkItem → Type 0
TextWithin t i = Within t i.promotional_text

pub record RangesWithin (t : List ℕ) (k : LinkInfo) : Type 0 where
  pub uri : UriWithin t k.fields.media_uri
  pub texts : Each (TextWithin t) (items_of k)
  pub descriptors : Within t k.fields.descriptors

-- the count is one that the array holds: past it `link_of` would have fewer items than the count says
pub record Stands (t : List ℕ) (k : LinkInfo) : Type 0 where
  pub count : k.fields.number_items ≤ number_items.widest
  pub ranges : RangesWithin t k
