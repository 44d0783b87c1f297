-- What was read is what the syntax says stands there: the section, link k of it, item i of that link. A walk by places lists the links by number.
-- Assumes nothing.
use mathlib.Core.Path.{◌≡◌, refl, sym, ap, ◌∙◌}
use Prim.Native.Nat.{ℕ, zero, suc, ◌+◌, ◌≤◌, ◌<◌}
use native.Mathlib.Omega.{arith}
use mathlib.Core.List.{List}
use lib.ListN.{length, take, get_or, get_or-map, get_or-append}
use lib.Seq.{get_or-take, length-take-le}
use Rattle.wire.specs.Lists.{Bytes, part}
use Rattle.length_field.specs.Lengths.{length_at, beside_at, block_end}
use Rattle.wire.proofs.Lists.{length_part}
use Rattle.wire.proofs.Verdicts.{fine-then, pass-leb}
use Rattle.link.specs.Syntax.{Item, Link}
use Rattle.link.specs.Reading.{items_place, item_count, item_end, item_place, item_at, items_at}
use Rattle.link.specs.Records.{range_of, item_of, items_of, link_of, no_item, filled, item_info, item_infos, fields_at, info_at}
use Rattle.link.specs.Answers.{link_answer, item_row, item_answer, item_in, link_got}
use Rattle.link.specs.declared.LinkInfo.{LinkInfo}
use Rattle.link.proofs.Filling.{length-infos}
use Rattle.link.proofs.Image.{info-image}
use Rattle.frame.specs.Reading.{payload_end, plain_demands}
use Rattle.rct.specs.Syntax.{head_length, full_length}
use Rattle.rct.specs.Reading.{body_in, count_at, link_place, section_at, entry_verdict, plain}
use Rattle.rct.proofs.Accepted.{accepted, length_is}
use Rattle.rct.proofs.Checked.{count_is}
use Rattle.rct.proofs.Links.{entry-pass}
use Rattle.rct.proofs.Payload.{length-same, beside_same, body_same}
use Rattle.rct_blocks.specs.Ends.{end_of}
use Rattle.rct_entries.specs.Entries.{entry_answer, entry_read, got_entry}
use Rattle.rct_blocks.proofs.Entries.{after_next}
use Rattle.rct_reader.specs.Sections.{section_info}
use Rattle.rct_reader.specs.declared.RctSection.{RctSection}
use Rattle.rct_bodies.specs.Bodies.{link_rows, body_place, body_of}
use Rattle.rct_bodies.proofs.Bodies.{rows-fine, LinkKnown, link-known}
use Rattle.rct_links.specs.Links.{entry_info, numbered_link, numbered_item}
use Rattle.std.specs.Prelude.{Ok}
use Rattle.wire.specs.Verdict.{Fine}

-- ---- the section

pub record SectionImage (xs : List ℕ) (r : RctSection) : Type 0 where
  pub total : r.total ≡ full_length (section_at xs)
  pub header : r.header ≡ (section_at xs).header
  pub count : r.number_of_links ≡ length (section_at xs).links
  pub beside : r.reserved_descriptor_loop_length ≡ (section_at xs).loop.beside
  pub descriptors : range_of xs r.descriptors ≡ (section_at xs).loop.body

-- what either reading answers of an accepted section is what the section's abstract record has
pub section-image : (xs : List ℕ) → Bytes xs → plain xs ≡ Fine → SectionImage xs (section_info xs)
unfolding section_at
section-image xs b v =
    record {
      total = omega (arith, length_is plain_demands xs b (accepted plain_demands xs b v));
      header = refl;
      count = sym (count_is xs);
      beside = refl;
      descriptors = refl;
    }

-- ---- items of a record

infos-at : (base n i : ℕ) (xs : List ℕ) (p : ℕ) → i < n → get_or (item_infos base n xs p) i no_item ≡ item_info base xs (item_place i xs p)
unfolding item_infos
infos-at base zero i xs p h = absurd (omega arith)
infos-at base (suc n) zero xs p h = refl
infos-at base (suc n) (suc i) xs p h = infos-at base n i xs (item_end xs p) (omega arith)

filled_at : (base n i : ℕ) (xs : List ℕ) (p : ℕ) → i < n → get_or (filled (item_infos base n xs p)) i no_item ≡ item_info base xs (item_place i xs p)
filled_at base n i xs p h = get_or-append (item_infos base n xs p) _ no_item i (rw (length-infos base n xs p) h) ∙ infos-at base n i xs p h

pub items_at_lem : (n i : ℕ) (xs : List ℕ) (p : ℕ) (d : Item) → i < n → get_or (items_at n xs p) i d ≡ item_at xs (item_place i xs p)
unfolding items_at
items_at_lem zero i xs p d h = absurd (omega arith)
items_at_lem (suc n) zero xs p d h = refl
items_at_lem (suc n) (suc i) xs p d h = items_at_lem n i xs (item_end xs p) d (omega arith)

-- ---- link k of an accepted section

module _ (xs : List ℕ) (b : Bytes xs) (k : ℕ) (v : plain xs ≡ Fine) (h : k < count_at xs) where
  known : LinkKnown xs k
  known = link-known xs k b (rows-fine xs k v h)

  pub link-answer : numbered_link xs k ≡ Ok (entry_info xs (link_place xs k))
  unfolding numbered_link link_answer
  link-answer = rw (rows-fine xs k v h)

  record_is : link_got (numbered_link xs k) ≡ entry_info xs (link_place xs k)
  record_is = ap link_got link-answer

  -- the record that link by number fills stands, with the section as its text, for link k
  pub link_image : (d : Link) → link_of xs (link_got (numbered_link xs k)) ≡ get_or (section_at xs).links k d
  link_image d = ap (link_of xs) record_is ∙ info-image xs (body_place xs k) (body_of xs k) same (beside_at xs (link_place xs k)) known.good ∙ sym (known.link d)
    where
      same : part xs (body_place xs k) (length (body_of xs k)) ≡ body_of xs k
      same = rw (length_part xs (body_place xs k) (length_at xs (link_place xs k)) (omega (arith, known.within, known.end)))

  -- the entry at link k's place in the payload answers link k without its items, and the place of the next
  pub entry-is : entry_read (take (payload_end xs) xs) (link_place xs k)
      ≡ got_entry (link_got (numbered_link xs k)).fields (body_place xs k + items_place (body_of xs k)) (link_place xs (k + 1))
  unfolding entry_read entry_answer info_at
  entry-is =
      let fields = ap (λ (r : LinkInfo). r.fields) record_is in
      rw (fine, body, beside_same xs e p (omega (arith, w)), length-same xs e p (omega (arith, w)), ← after_next k xs head_length, fields)
    where
      e : ℕ
      e = payload_end xs

      p : ℕ
      p = link_place xs k

      w : block_end xs p ≤ e
      w = known.within

      body : body_in (take e xs) p ≡ body_in xs p
      body = body_same xs e p w

      size : length (take e xs) ≡ e
      size = length-take-le e xs known.end

      fine : entry_verdict (take e xs) (end_of (take e xs)) p ≡ Fine
      fine = entry-pass (take e xs) (end_of (take e xs)) p (omega (arith, size, length-same xs e p (omega (arith, w)), w, known.short)) (rw body known.good)

  -- ---- item i of link k

  module _ (i : ℕ) (l : i < item_count (body_of xs k)) where
    held : get_or (link_got (numbered_link xs k)).items i no_item ≡ item_in (body_place xs k) (body_of xs k) i
    unfolding info_at
    held = ap (λ (r : LinkInfo). get_or r.items i no_item) record_is ∙ filled_at _ _ i (body_of xs k) _ l

    pub in-range : item_row (body_of xs k) i ≡ Fine
    unfolding item_row
    in-range = pass-leb (item_count (body_of xs k)) i _ _ _ l

    -- item by number is item i of that record
    pub item-answer : numbered_item xs k i ≡ Ok (get_or (link_got (numbered_link xs k)).items i no_item)
    unfolding numbered_item item_answer
    item-answer = rw (held, fine-then (link_rows xs k) _ (rows-fine xs k v h) in-range)

    -- and stands for item i of link k
    pub item-image : (d : Link) → item_of xs (get_or (link_got (numbered_link xs k)).items i no_item) ≡ get_or (get_or (section_at xs).links k d).items i (item_of xs no_item)
    unfolding link_of info_at fields_at
    item-image d =
        sym
        (ap (λ (m : Link). get_or m.items i (item_of xs no_item)) (sym (link_image d))
        ∙ get_or-map (item_of xs) (items_of (link_got (numbered_link xs k))) i no_item
        ∙ ap (item_of xs) (get_or-take (link_got (numbered_link xs k)).fields.number_items (link_got (numbered_link xs k)).items i no_item counted))
      where
        counted : i < (link_got (numbered_link xs k)).fields.number_items
        counted = rw record_is l
