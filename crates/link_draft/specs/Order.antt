-- What the order of a record's refusals is about: whether URI and locator agree with the link type, the fields
-- that the record has and their numbers, the rule on windows, and the ranges ("of several too wide the lowest place
-- answers, items in order; of several ranges past the text the URI's, then the items', then the descriptors'").
-- Assumes nothing.
use Rattle.std.specs.Prelude.{ℕ, ◌≤◌, ◌≡◌, List, [], ◌∷◌, ◌++◌, map, None, Some}
use Rattle.field.specs.Fields.{how_related, term_id, link_type, link_type_reserved, group_id, precedence, uri_length, start_date, locator_reserved, triplet_id, inline_reserved, early_start, late_end, number_items, number_items_reserved, text_length, descriptor_length, icon_id, link_length_reserved}
use Rattle.field.specs.declared.Field.{Field}
use Rattle.locator.specs.Syntax.{Ruled}
use Rattle.locator.specs.declared.DvbLocatorService.{DvbLocatorService}
use Rattle.locator.specs.declared.DvbLocatorService.TheVariants.{Triplet, Full}
use Rattle.link.specs.Syntax.{uri_due, locator_due}
use Rattle.link.specs.Records.{items_of}
use Rattle.link.specs.declared.Range.{Range}
use Rattle.link.specs.declared.LinkItem.{LinkItem}
use Rattle.link.specs.declared.LinkFields.{LinkFields}
use Rattle.link.specs.declared.LinkInfo.{LinkInfo}
use Rattle.link_draft.specs.Checks.{uri_here, locator_here}
use Rattle.link.specs.Options.{LinkLocator, MediaUri}
use Rattle.locator.specs.Windows.{Windows}

-- ---- 23: there is a URI, and a locator, exactly if the link type has one

pub record Agrees (f : LinkFields) : Type 0 where
  pub uri : uri_here f.media_uri ≡ uri_due f.link_type
  pub locator : locator_here f.dvb_binary_locator ≡ locator_due f.link_type

-- ---- 22: the fields that are present, by rank, and their numbers

pub record Numbered : Type 0 where
  pub field : Field
  pub number : ℕ

infix 70 ◌≔◌
abbrev pub ◌≔◌ : Field → ℕ → Numbered
f ≔ n = record { field = f; number = n }

-- the field holds its number
abbrev pub Held : Numbered → Type 0
Held p = p.number ≤ p.field.widest

abbrev pub head_numbers : LinkFields → List Numbered
head_numbers f =
    how_related ≔ f.how_related
    ∷ term_id ≔ f.term_id
    ∷ link_type ≔ f.link_type
    ∷ link_type_reserved ≔ f.reserved_link_type
    ∷ group_id ≔ f.group_id
    ∷ precedence ≔ f.precedence
    ∷ []

abbrev pub uri_numbers : MediaUri → List Numbered
uri_numbers None = []
uri_numbers (Some r) = uri_length ≔ r.length ∷ []

abbrev pub service_numbers : DvbLocatorService → List Numbered
service_numbers (Triplet t) = triplet_id ≔ t ∷ []
service_numbers (Full r ts on sv) = inline_reserved ≔ r ∷ []

abbrev pub windows_numbers : Windows → List Numbered
windows_numbers None = []
windows_numbers (Some w) = early_start ≔ w.early_start_window ∷ late_end ≔ w.late_end_window ∷ []

abbrev pub locator_numbers : LinkLocator → List Numbered
locator_numbers None = []
locator_numbers (Some l) = start_date ≔ l.start_date ∷ locator_reserved ≔ l.reserved ∷ (service_numbers l.service ++ windows_numbers l.windows)

abbrev pub count_numbers : LinkFields → List Numbered
count_numbers f = number_items ≔ f.number_items ∷ number_items_reserved ≔ f.reserved_number_items ∷ []

abbrev pub text_number : LinkItem → Numbered
text_number i = text_length ≔ i.promotional_text.length

abbrev pub end_numbers : LinkFields → List Numbered
end_numbers f = descriptor_length ≔ f.descriptors.length ∷ icon_id ≔ f.icon_id ∷ link_length_reserved ≔ f.reserved_link_info_length ∷ []

unfoldable pub present_fields : LinkInfo → List Numbered
present_fields k =
    let f = k.fields in
    head_numbers f ++ (uri_numbers f.media_uri ++ (locator_numbers f.dvb_binary_locator ++ (count_numbers f ++ (map text_number (items_of k) ++ end_numbers f))))

-- an order of ranks: none falls from one to the next, the first is at least p and the last at most q
unfoldable pub Rising : ℕ → ℕ → List Numbered → Type 0
Rising p q [] = p ≤ q
Rising p q (x ∷ xs) = (p ≤ x.field.rank) × Rising x.field.rank q xs

-- ---- 24: windows are there exactly if they are due

abbrev pub RuleKept : LinkLocator → Type 0
RuleKept None = Unit
RuleKept (Some l) = Ruled l

-- ---- 25: the ranges

abbrev pub uri_ranges : MediaUri → List Range
uri_ranges None = []
uri_ranges (Some r) = r ∷ []

abbrev pub text_range : LinkItem → Range
text_range i = i.promotional_text

unfoldable pub present_ranges : LinkInfo → List Range
present_ranges k = uri_ranges k.fields.media_uri ++ (map text_range (items_of k) ++ (k.fields.descriptors ∷ []))
