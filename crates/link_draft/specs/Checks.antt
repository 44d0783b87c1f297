-- What is checked of a link's record before it is written: refusals 23, 22, 24 and 25, in this order. Fields that are
-- absent are not checked.
-- Assumes nothing.
use Rattle.std.specs.Prelude.{ℕ, ◌+◌, Bool, true, false, List, [], ◌∷◌, ltb, length, None, Some}
use Rattle.std.specs.Bool.{xor}
use Rattle.field.specs.Fields.{how_related, term_id, link_type, link_type_reserved, group_id, precedence, uri_length, number_items, number_items_reserved, text_length, descriptor_length, icon_id, link_length_reserved, check_field}
use Rattle.wire.specs.Refusals.{against_type, past_text}
use Rattle.wire.specs.Verdict.{refuse, ◌▷◌, Fine, Verdict}
use Rattle.locator.specs.Checks as checks
use Rattle.link.specs.Syntax.{uri_due, locator_due}
use Rattle.link.specs.Records.{items_of}
use Rattle.link.specs.declared.Range.{Range}
use Rattle.link.specs.declared.LinkItem.{LinkItem}
use Rattle.link.specs.declared.LinkFields.{LinkFields}
use Rattle.link.specs.declared.LinkInfo.{LinkInfo}
use Rattle.link_draft.specs.Lengths.{link_length}
use Rattle.link_draft.specs.declared.LinkChecked.{LinkChecked}
use Rattle.link.specs.Options.{LinkLocator, MediaUri}

-- of the verdicts of a list's elements the first that refuses
unfoldable pub first_in : {A : Type 0} → (A → Verdict) → List A → Verdict
first_in f [] = Fine
first_in f (x ∷ xs) = f x ▷ first_in f xs

-- ---- 23: URI or locator present against the link type, or missing

abbrev pub uri_here : MediaUri → Bool
uri_here None = false
uri_here (Some r) = true

abbrev pub locator_here : LinkLocator → Bool
locator_here None = false
locator_here (Some l) = true

unfoldable pub check_presence : LinkFields → Verdict
check_presence f =
    refuse (xor (uri_here f.media_uri) (uri_due f.link_type)) against_type f.link_type 0
    ▷ refuse (xor (locator_here f.dvb_binary_locator) (locator_due f.link_type)) against_type f.link_type 0

-- ---- 22: a field above its widest number, lowest rank first

-- ranks 1 to 6
unfoldable pub check_head : LinkFields → Verdict
check_head f =
    check_field how_related f.how_related
    ▷ check_field term_id f.term_id
    ▷ check_field link_type f.link_type
    ▷ check_field link_type_reserved f.reserved_link_type
    ▷ check_field group_id f.group_id
    ▷ check_field precedence f.precedence

-- rank 7
unfoldable pub check_uri : MediaUri → Verdict
check_uri None = Fine
check_uri (Some r) = check_field uri_length r.length

-- ranks 8 to 13
unfoldable pub check_locator_fields : LinkLocator → Verdict
check_locator_fields None = Fine
check_locator_fields (Some l) = checks.check_fields l

-- ranks 14 and 15: a count above what a record holds answers before any item is looked at
unfoldable pub check_count : LinkFields → Verdict
check_count f = check_field number_items f.number_items ▷ check_field number_items_reserved f.reserved_number_items

-- rank 16
abbrev pub check_text : LinkItem → Verdict
check_text i = check_field text_length i.promotional_text.length

-- ranks 17 to 19
unfoldable pub check_end : LinkFields → Verdict
check_end f =
    check_field descriptor_length f.descriptors.length
    ▷ check_field icon_id f.icon_id
    ▷ check_field link_length_reserved f.reserved_link_info_length

unfoldable pub check_fields : LinkInfo → Verdict
check_fields k =
    let f = k.fields in
    check_head f ▷ check_uri f.media_uri ▷ check_locator_fields f.dvb_binary_locator ▷ check_count f ▷ first_in check_text (items_of k) ▷ check_end f

-- ---- 24: windows present against the rule, or missing

unfoldable pub check_locator_rule : LinkLocator → Verdict
check_locator_rule None = Fine
check_locator_rule (Some l) = checks.check_windows l

-- ---- 25: the first range whose start + length is above the length of the text

unfoldable pub check_range : ℕ → Range → Verdict
check_range have r = refuse (ltb have (r.start + r.length)) past_text r.start r.length

unfoldable pub check_uri_range : ℕ → MediaUri → Verdict
check_uri_range have None = Fine
check_uri_range have (Some r) = check_range have r

abbrev pub check_text_range : ℕ → LinkItem → Verdict
check_text_range have i = check_range have i.promotional_text

unfoldable pub check_ranges : ℕ → LinkInfo → Verdict
check_ranges have k =
    check_uri_range have k.fields.media_uri ▷ first_in (check_text_range have) (items_of k) ▷ check_range have k.fields.descriptors

-- ---- all of them, of a record whose ranges are of the text t

unfoldable pub check_link : List ℕ → LinkInfo → Verdict
check_link t k = check_presence k.fields ▷ check_fields k ▷ check_locator_rule k.fields.dvb_binary_locator ▷ check_ranges (length t) k

-- the answer: the verdict, and beside it the body's length, whatever the verdict
unfoldable pub link_checked : List ℕ → LinkInfo → LinkChecked
link_checked t k = record { verdict = check_link t k; length = link_length k }
