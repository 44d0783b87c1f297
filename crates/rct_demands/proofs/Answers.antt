-- What the reading calls answer of a buffer, by the syntax's records that it holds; what lies behind the section that was written.
-- Assumes nothing.
use Prim.Native.Nat.{ℕ, zero, suc, ◌-◌, ◌<◌}
use mathlib.Core.Path.{◌≡◌, refl, sym, ap, ◌∙◌}
use native.Mathlib.Omega.{arith}
use mathlib.Core.List.{List, [], ◌∷◌, map}
use lib.ListN.{length, take, get_or, length-append, length-take}
use lib.Seq.{get_or-take}
use Rattle.wire.specs.Lists.{Bytes}
use Rattle.link.specs.Syntax.{Item, Link}
use Rattle.link.specs.Reading.{item_count}
use Rattle.link.specs.Records.{range_of, item_of, items_of, link_of, no_item, filled, item_infos, fields_at, info_at}
use Rattle.link.specs.declared.LinkInfo.{LinkInfo}
use Rattle.link.specs.declared.LinkItem.{LinkItem}
use Rattle.link.proofs.Filling.{length-infos}
use Rattle.frame.specs.Reading.{total_of}
use Rattle.rct.specs.Syntax.{Section}
use Rattle.rct.specs.Reading.{count_at, link_place, section_at, plain, checked}
use Rattle.rct.proofs.Checked.{count_is}
use Rattle.rct_reader.specs.Sections.{section_info}
use Rattle.rct_reader.specs.declared.RctSection.{RctSection}
use Rattle.rct_reader.proofs.Wholes.{fine-read}
use Rattle.rct_bodies.specs.Bodies.{body_of}
use Rattle.rct_links.specs.Links.{entry_info, numbered_link}
use Rattle.rct_links.proofs.Images.{link-answer, item-answer}
use Rattle.rct_edit.specs.Edit.{written, Outcome}
use Rattle.rct_edit.proofs.ReadsBack.{ReadsBack}
use Rattle.rct_demands.specs.Back.{SameLink, SameItem, LinkBack, SectionBack}
use Rattle.std.specs.Prelude.{Err, Ok}
use Rattle.wire.specs.Verdict.{Fine, Verdict, verdict_of}
use Rattle.link.specs.Answers.{link_got}

-- ---- either reading of a buffer that it accepts

pub record Answers (xs : List ℕ) (r : RctSection) : Type 0 where
  pub total : r.total ≡ total_of xs
  pub header : r.header ≡ (section_at xs).header
  pub links : r.number_of_links ≡ count_at xs
  pub reserved : r.reserved_descriptor_loop_length ≡ (section_at xs).loop.beside
  pub loop : range_of xs r.descriptors ≡ (section_at xs).loop.body

pub answers : (xs : List ℕ) → Answers xs (section_info xs)
unfolding section_at
answers xs = record { total = refl; header = refl; links = refl; reserved = refl; loop = refl }

pub section-back : (s : Section) (o : Outcome) → ReadsBack s o → SectionBack o s.header (length s.links) s.loop.beside s.loop.body
section-back s o r =
    let a = answers o.buffer in
    record {
      read = section_info o.buffer;
      answer = fine-read (checked o.buffer) o.buffer r.passed;
      total = a.total ∙ r.total;
      header = a.header ∙ ap (λ (z : Section). z.header) r.same;
      links = a.links ∙ sym (count_is o.buffer) ∙ ap (λ (z : Section). length z.links) r.same;
      reserved = a.reserved ∙ ap (λ (z : Section). z.loop.beside) r.same;
      loop = a.loop ∙ ap (λ (z : Section). z.loop.body) r.same;
    }

-- ---- link by number of a buffer that the plain reading accepts

length-map : (f : LinkItem → Item) (is : List LinkItem) → length (map f is) ≡ length is
length-map f [] = refl
length-map f (x ∷ is) = ap suc (length-map f is)

map_at : (f : LinkItem → Item) (is : List LinkItem) (i : ℕ) (d : Item) → i < length is → get_or (map f is) i d ≡ f (get_or is i no_item)
map_at f [] i d h = absurd (omega arith)
map_at f (x ∷ is) zero d h = refl
map_at f (x ∷ is) (suc i) d h = map_at f is i d (omega arith)

-- as many items as counted are held
held : (is : List LinkItem) (base n : ℕ) (xs : List ℕ) (p : ℕ) → is ≡ filled (item_infos base n xs p) → length (take n is) ≡ n
held is base n xs p e = rw e (simp (length-take, length-append, length-infos base n xs p) (omega arith))

module _ (ys : List ℕ) (b : Bytes ys) (v : plain ys ≡ Fine) (k : ℕ) (h : k < count_at ys) where
  is : link_got (numbered_link ys k) ≡ entry_info ys (link_place ys k)
  is = ap link_got (link-answer ys b k v h)

  counted : (link_got (numbered_link ys k)).fields.number_items ≡ item_count (body_of ys k)
  unfolding info_at fields_at
  counted = ap (λ (r : LinkInfo). r.fields.number_items) is

  counts : length (items_of (link_got (numbered_link ys k))) ≡ item_count (body_of ys k)
  unfolding info_at fields_at
  counts = ap (λ (r : LinkInfo). length (items_of r)) is ∙ held _ _ (item_count (body_of ys k)) (body_of ys k) _ refl

  module _ (t : List ℕ) (a : LinkInfo) (e : SameLink ys (link_got (numbered_link ys k)) t a) where
    items-same : map (item_of ys) (items_of (link_got (numbered_link ys k))) ≡ map (item_of t) (items_of a)
    unfolding link_of
    items-same = ap (λ (l : Link). l.items) e

    count_same : item_count (body_of ys k) ≡ length (items_of a)
    count_same = sym counts ∙ sym (length-map (item_of ys) (items_of (link_got (numbered_link ys k)))) ∙ ap length items-same ∙ length-map (item_of t) (items_of a)

    item-same : (i : ℕ) → i < length (items_of a) → SameItem ys (get_or (link_got (numbered_link ys k)).items i no_item) t (get_or a.items i no_item)
    item-same i l =
        let n : ℕ = (link_got (numbered_link ys k)).fields.number_items in
        let below : i < n = omega (arith, counted, count_same) in
        let shown : i < a.fields.number_items = omega (arith, length-take a.fields.number_items a.items) in
        ap (item_of ys) (sym (get_or-take n (link_got (numbered_link ys k)).items i no_item below))
        ∙ sym (map_at (item_of ys) (items_of (link_got (numbered_link ys k))) i (item_of t no_item) (omega (arith, counts, count_same)))
        ∙ ap (λ z. get_or z i (item_of t no_item)) items-same
        ∙ map_at (item_of t) (items_of a) i (item_of t no_item) l
        ∙ ap (item_of t) (get_or-take a.fields.number_items a.items i no_item shown)

    pub link-back : LinkBack ys k t a
    link-back =
        record {
          verdict = ap verdict_of (link-answer ys b k v h);
          same = e;
          count = counted ∙ count_same;
          items = λ i l. record { read = _; answer = item-answer ys b k v h i (omega (arith, count_same)); same = item-same i l };
        }
