-- The checks are passed exactly by the records that stand for a link that fits.
-- Assumes nothing.
use Prim.Native.Nat.{ℕ, min, ◌≤◌}
use mathlib.Core.Path.{◌≡◌, refl, sym, ◌∙◌}
use mathlib.Core.List.{List, [], ◌∷◌, map}
use mathlib.Core.Logic.{◌↔◌}
use native.Mathlib.Omega.{arith}
use lib.ListN.{length, length-map, length-take}
use Rattle.field.specs.Fields.{how_related, term_id, link_type, link_type_reserved, group_id, precedence, uri_length, number_items, number_items_reserved, text_length, descriptor_length, icon_id, link_length_reserved}
use Rattle.field.proofs.Checks.{field-passed, field-pass}
use Rattle.wire.specs.Lists.{Bytes}
use Rattle.wire.proofs.Lists.{bytes-part}
use Rattle.wire.proofs.Verdicts.{then-fine, fine-then, agree-passed, agree-pass}
use Rattle.locator.proofs.Checked.{fields-narrow, narrow-fields, windows-ruled, ruled-windows}
use Rattle.link.specs.Syntax.{LinkFits, UriFits, LocatorFits, ItemsFit, here, uri_due, locator_due}
use Rattle.link.specs.Records.{item_of, uri_of, locator_of, items_of, link_of}
use Rattle.link.specs.declared.LinkItem.{LinkItem}
use Rattle.link.specs.declared.LinkFields.{LinkFields}
use Rattle.link.specs.declared.LinkInfo.{LinkInfo}
use Rattle.link_draft.specs.Checks.{first_in, uri_here, locator_here, check_presence, check_head, check_uri, check_locator_fields, check_count, check_text, check_end, check_fields, check_locator_rule, check_uri_range, check_text_range, check_ranges, check_link}
use Rattle.link_draft.specs.Carried.{Each, ItemCarried, LocatorCarried, Carried, UriWithin, TextWithin, RangesWithin, Stands, HeadNarrow, EndNarrow}
use Rattle.link_draft.proofs.Sizes.{range_length}
use Rattle.link_draft.proofs.Rows.{range-passed, range-pass, each-passed, each-pass, each_take}
use Rattle.link.specs.Options.{LinkLocator, MediaUri}
use Rattle.std.specs.Prelude.{None, Some}
use Rattle.wire.specs.Verdict.{Fine}

-- ---- the URI

pub uri-here : (t : List ℕ) (u : MediaUri) → here (uri_of t u) ≡ uri_here u
uri-here t None = refl
uri-here t (Some r) = refl

uri-within : (t : List ℕ) (u : MediaUri) → check_uri_range (length t) u ≡ Fine → UriWithin t u
unfolding check_uri_range
uri-within t None e = tt
uri-within t (Some r) e = range-passed t r e

within-uri : (t : List ℕ) (u : MediaUri) → UriWithin t u → check_uri_range (length t) u ≡ Fine
unfolding check_uri_range
within-uri t None w = refl
within-uri t (Some r) w = range-pass t r w

uri-fits : (t : List ℕ) (u : MediaUri) → Bytes t → UriWithin t u → check_uri u ≡ Fine → UriFits (uri_of t u)
unfolding check_uri
uri-fits t None b w e = tt
uri-fits t (Some r) b w e = (rw (range_length t r w) (field-passed uri_length r.length e), bytes-part t r.start r.length b)

fits-uri : (t : List ℕ) (u : MediaUri) → UriWithin t u → UriFits (uri_of t u) → check_uri u ≡ Fine
unfolding check_uri
fits-uri t None w f = refl
fits-uri t (Some r) w f = field-pass uri_length r.length (rw (range_length t r w) at f.0)

-- ---- the locator

pub locator-here : (m : LinkLocator) → here (locator_of m) ≡ locator_here m
locator-here None = refl
locator-here (Some l) = refl

locator-fits : (m : LinkLocator) → LocatorCarried m → check_locator_fields m ≡ Fine → check_locator_rule m ≡ Fine → LocatorFits (locator_of m)
unfolding check_locator_fields check_locator_rule
locator-fits None c e f = tt
locator-fits (Some l) c e f = record { narrow = fields-narrow l e; rule = windows-ruled l f; carried = c }

fits-locator : (m : LinkLocator) → LocatorFits (locator_of m) → (check_locator_fields m ≡ Fine) × (check_locator_rule m ≡ Fine)
unfolding check_locator_fields check_locator_rule
fits-locator None f = (refl, refl)
fits-locator (Some l) f = (narrow-fields l f.narrow, ruled-windows l f.rule)

-- ---- the items

items-fit : (t : List ℕ) → Bytes t → (is : List LinkItem) → Each ItemCarried is → Each (TextWithin t) is → first_in check_text is ≡ Fine → ItemsFit (map (item_of t) is)
unfolding first_in
items-fit t b [] c w e = tt
items-fit t b (i ∷ is) c w e =
    let two = then-fine (check_text i) (first_in check_text is) e in
    let r = i.promotional_text in (
      record {
        first = c.0.first;
        second = c.0.second;
        third = c.0.third;
        short = rw (range_length t r w.0) (field-passed text_length r.length two.0);
        bytes = bytes-part t r.start r.length b;
      },
      items-fit t b is c.1 w.1 two.1,
    )

fit-items : (t : List ℕ) (is : List LinkItem) → Each (TextWithin t) is → ItemsFit (map (item_of t) is) → first_in check_text is ≡ Fine
unfolding first_in
fit-items t [] w f = refl
fit-items t (i ∷ is) w f =
    let r = i.promotional_text in
    fine-then (check_text i) (first_in check_text is) (field-pass text_length r.length (rw (range_length t r w.0) at f.0.short)) (fit-items t is w.1 f.1)

-- ---- the fields before the URI, and behind the items

module _ (f : LinkFields) where
  head-narrow : check_head f ≡ Fine → HeadNarrow f
  unfolding check_head
  head-narrow e =
      let a = then-fine _ _ e in
      let b = then-fine _ _ a.1 in
      let c = then-fine _ _ b.1 in
      let d = then-fine _ _ c.1 in
      let g = then-fine _ _ d.1 in
      record {
        related = field-passed how_related f.how_related a.0;
        term = field-passed term_id f.term_id b.0;
        type = field-passed link_type f.link_type c.0;
        reserved = field-passed link_type_reserved f.reserved_link_type d.0;
        group = field-passed group_id f.group_id g.0;
        precedence = field-passed precedence f.precedence g.1;
      }

  narrow-head : HeadNarrow f → check_head f ≡ Fine
  unfolding check_head
  narrow-head n =
      fine-then _ _ (field-pass how_related f.how_related n.related)
      (fine-then _ _ (field-pass term_id f.term_id n.term)
      (fine-then _ _ (field-pass link_type f.link_type n.type)
      (fine-then _ _ (field-pass link_type_reserved f.reserved_link_type n.reserved)
      (fine-then _ _ (field-pass group_id f.group_id n.group) (field-pass precedence f.precedence n.precedence)))))

  end-narrow : check_end f ≡ Fine → EndNarrow f
  unfolding check_end
  end-narrow e =
      let a = then-fine _ _ e in
      let b = then-fine _ _ a.1 in
      record {
        short = field-passed descriptor_length f.descriptors.length a.0;
        icon = field-passed icon_id f.icon_id b.0;
        beside = field-passed link_length_reserved f.reserved_link_info_length b.1;
      }

  narrow-end : EndNarrow f → check_end f ≡ Fine
  unfolding check_end
  narrow-end n =
      fine-then _ _ (field-pass descriptor_length f.descriptors.length n.short)
      (fine-then _ _ (field-pass icon_id f.icon_id n.icon) (field-pass link_length_reserved f.reserved_link_info_length n.beside))

-- ---- the record

module _ (t : List ℕ) (k : LinkInfo) where
  ranges-within : check_ranges (length t) k ≡ Fine → RangesWithin t k
  unfolding check_ranges
  ranges-within e =
      let a = then-fine _ _ e in
      let b = then-fine _ _ a.1 in
      record {
        uri = uri-within t k.fields.media_uri a.0;
        texts = each-passed (check_text_range (length t)) (λ i. range-passed t i.promotional_text) (items_of k) b.0;
        descriptors = range-passed t k.fields.descriptors b.1;
      }

  within-ranges : RangesWithin t k → check_ranges (length t) k ≡ Fine
  unfolding check_ranges
  within-ranges w =
      fine-then _ _ (within-uri t k.fields.media_uri w.uri)
      (fine-then _ _ (each-pass (check_text_range (length t)) (λ i. range-pass t i.promotional_text) (items_of k) w.texts) (range-pass t k.fields.descriptors w.descriptors))

  -- the rows of a record that passes, apart
  pub record Passed : Type 0 where
    pub uri_here : uri_here k.fields.media_uri ≡ uri_due k.fields.link_type
    pub locator_here : locator_here k.fields.dvb_binary_locator ≡ locator_due k.fields.link_type
    pub head : HeadNarrow k.fields
    pub uri : check_uri k.fields.media_uri ≡ Fine
    pub locator : check_locator_fields k.fields.dvb_binary_locator ≡ Fine
    pub reserved : k.fields.reserved_number_items ≤ number_items_reserved.widest
    pub texts : first_in check_text (items_of k) ≡ Fine
    pub end : EndNarrow k.fields
    pub rule : check_locator_rule k.fields.dvb_binary_locator ≡ Fine
    pub stands : Stands t k

  pub passed : check_link t k ≡ Fine → Passed
  unfolding check_link check_presence check_fields check_count
  passed e =
      let a = then-fine _ _ e in
      let p = then-fine _ _ a.0 in
      let b = then-fine _ _ a.1 in
      let r = then-fine _ _ b.1 in
      let c = then-fine _ _ b.0 in
      let d = then-fine _ _ c.1 in
      let f = then-fine _ _ d.1 in
      let g = then-fine _ _ f.1 in
      let h = then-fine _ _ g.0 in
      let i = then-fine _ _ g.1 in
      record {
        uri_here = agree-passed _ _ _ _ _ p.0;
        locator_here = agree-passed _ _ _ _ _ p.1;
        head = head-narrow k.fields c.0;
        uri = d.0;
        locator = f.0;
        reserved = field-passed number_items_reserved k.fields.reserved_number_items h.1;
        texts = i.0;
        end = end-narrow k.fields i.1;
        rule = r.0;
        stands = record { count = field-passed number_items k.fields.number_items h.0; ranges = ranges-within r.1 };
      }

  pass : Passed → check_link t k ≡ Fine
  unfolding check_link check_presence check_fields check_count
  pass p =
      fine-then _ _ (fine-then _ _ (agree-pass _ _ _ _ _ p.uri_here) (agree-pass _ _ _ _ _ p.locator_here))
      (fine-then _ _
      (fine-then _ _ (narrow-head k.fields p.head)
      (fine-then _ _ p.uri
      (fine-then _ _ p.locator
      (fine-then _ _
      (fine-then _ _ (field-pass number_items k.fields.number_items p.stands.count) (field-pass number_items_reserved k.fields.reserved_number_items p.reserved))
      (fine-then _ _ p.texts (narrow-end k.fields p.end))))))
      (fine-then _ _ p.rule (within-ranges p.stands.ranges)))

  -- ---- exactly

  pub check-fits : Bytes t → Carried k → check_link t k ≡ Fine → LinkFits (link_of t k)
  unfolding link_of
  check-fits b c e =
      let p = passed e in
      let w = p.stands.ranges in
      let f = k.fields in
      let n : length (map (item_of t) (items_of k)) ≡ min f.number_items (length k.items) = length-map (items_of k) (item_of t) ∙ length-take f.number_items k.items in
      record {
        length_reserved = p.end.beside;
        link_type = p.head.type;
        type_reserved = p.head.reserved;
        how_related = p.head.related;
        term_id = p.head.term;
        group_id = p.head.group;
        precedence = p.head.precedence;
        uri_here = uri-here t f.media_uri ∙ p.uri_here;
        uri = uri-fits t f.media_uri b w.uri p.uri;
        locator_here = locator-here f.dvb_binary_locator ∙ p.locator_here;
        locator = locator-fits f.dvb_binary_locator c.locator p.locator p.rule;
        items_reserved = p.reserved;
        count = rw n (omega (arith, p.stands.count));
        items = items-fit t b (items_of k) (each_take ItemCarried f.number_items k.items c.items) w.texts p.texts;
        icon_id = p.end.icon;
        short = rw (range_length t f.descriptors w.descriptors) p.end.short;
        descriptors = bytes-part t f.descriptors.start f.descriptors.length b;
      }

  pub fits-check : LinkFits (link_of t k) → Stands t k → check_link t k ≡ Fine
  unfolding link_of
  fits-check g s =
      let w = s.ranges in
      let f = k.fields in
      let m = fits-locator f.dvb_binary_locator g.locator in
      pass record {
        uri_here = sym (uri-here t f.media_uri) ∙ g.uri_here;
        locator_here = sym (locator-here f.dvb_binary_locator) ∙ g.locator_here;
        head = record { related = g.how_related; term = g.term_id; type = g.link_type; reserved = g.type_reserved; group = g.group_id; precedence = g.precedence };
        uri = fits-uri t f.media_uri w.uri g.uri;
        locator = m.0;
        reserved = g.items_reserved;
        texts = fit-items t (items_of k) w.texts g.items;
        end = record { short = rw (range_length t f.descriptors w.descriptors) at g.short; icon = g.icon_id; beside = g.length_reserved };
        rule = m.1;
        stands = s;
      }

  pub check-exact : Bytes t → Carried k → (check_link t k ≡ Fine) ↔ (LinkFits (link_of t k) × Stands t k)
  check-exact b c = ((λ e. (check-fits b c e, (passed e).stands)), (λ f. fits-check f.0 f.1))
