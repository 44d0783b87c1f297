-- What the reading calls answer of a section can be handed to the calls that write: a link's record passes its own checks and stands for the link, and the header and the loop pass theirs. A run of such calls, none of which is refused.
-- Assumes nothing.
use Prim.Native.Nat.{ℕ, zero, suc, ◌+◌, ◌-◌, ◌≤◌, ◌<◌}
use mathlib.Core.Path.{◌≡◌, refl, sym, ap, ◌∙◌}
use mathlib.Core.Bool.{Bool, true, false}
use mathlib.Core.List.{List}
use native.Mathlib.Omega.{arith}
use lib.ListN.{length, get_or, take, replicate}
use lib.Seq.{take_at}
use Rattle.wire.specs.Choice.{pick}
use Rattle.wire.specs.Lists.{Bytes}
use Rattle.length_field.specs.Lengths.{length_at, beside_at, block_end}
use Rattle.length_field.proofs.Blocks.{length-short, beside-narrow}
use Rattle.wire.proofs.Lists.{length_part}
use Rattle.wire.proofs.Verdicts.{then-fine, fine-then}
use Rattle.field.specs.Fields.{loop_length, loop_length_reserved}
use Rattle.field.proofs.Checks.{field-pass}
use Rattle.link.specs.Syntax.{Link, LinkFits, head_length, uri_due}
use Rattle.link.specs.Reading.{type_at, uri_start, items_place, item_count, item_end, item_verdict, items_verdict, body_verdict}
use Rattle.link.specs.Records.{no_item, filled, item_infos, fields_at, info_at, link_of}
use Rattle.link.specs.declared.LinkItem.{LinkItem}
use Rattle.link.proofs.Bounds.{body-known, front-known, rest-known}
use Rattle.link.proofs.Filling.{length-infos}
use Rattle.link.proofs.Items.{item-passed}
use Rattle.link_draft.specs.Carried.{Each, UriWithin, TextWithin, Stands}
use Rattle.link_draft.specs.Checks.{check_link}
use Rattle.link_draft.proofs.Exact.{fits-check}
use Rattle.link_draft.proofs.Rows.{range-pass}
use Rattle.section_header.specs.Reading.{header_at}
use Rattle.frame.specs.Reading.{plain_demands}
use Rattle.section_header.proofs.HeaderLaws.{header-pass}
use Rattle.rct.specs.Syntax as section
use Rattle.rct.specs.Syntax.{Section, full_length, Fits}
use Rattle.rct.specs.Reading.{rct_header_at, count_at, link_in, links_at, link_place, loop_place, section_at, plain}
use Rattle.rct.proofs.Accepted.{Accepted, accepted, accepted-fits}
use Rattle.rct.proofs.Checked.{Holds}
use Rattle.rct.proofs.Links.{entry_read_lem}
use Rattle.rct_blocks.proofs.Entries.{after_next}
use Rattle.rct_reader.specs.Sections.{section_info}
use Rattle.rct_bodies.specs.Bodies.{body_place, body_of}
use Rattle.rct_bodies.proofs.Bodies.{rows-fine, LinkKnown, link-known}
use Rattle.rct_links.specs.Links.{entry_info, numbered_link}
use Rattle.rct_links.proofs.Images.{link-answer, link_image}
use Rattle.rct_edit.specs.Edit.{bare, with_next, Outcome, made, appended}
use Rattle.rct_edit.specs.Making.{check_loop, check_making}
use Rattle.rct_edit.specs.Calls.{making, appending}
use Rattle.rct_edit.proofs.Calls.{Stepped, append-can, append-stepped, appended-verdict}
use Rattle.rct_edit.proofs.Rebuilt.{appends, NoneRefused}
use Rattle.rct_demands.specs.Again.{links_from, made_again, append_all, AllAccepted}
use Rattle.std.specs.Prelude.{None, Some}
use Rattle.wire.specs.Verdict.{Fine}
use Rattle.link.specs.Answers.{link_got}

-- ---- the ranges of a record that was read lie in the text that its body is of

module _ (t : List ℕ) (base : ℕ) (ys : List ℕ) (within : base + length ys ≤ length t) where
  uri-within : (b : Bool) → pick b (uri_start + get_or ys head_length 0) head_length ≤ length ys
      → UriWithin t (pick b (Some (record { start = base + uri_start; length = get_or ys head_length 0 })) None)
  uri-within true h = omega arith
  uri-within false h = tt

  infos-within : (n p : ℕ) → items_verdict n ys p ≡ Fine → Each (TextWithin t) (item_infos base n ys p)
  unfolding items_verdict item_infos
  infos-within zero p v = tt
  infos-within (suc n) p v =
      let two = then-fine (item_verdict ys p) _ v in
      (omega (arith, item-passed ys p two.0), infos-within n (item_end ys p) two.1)

  read-stands : (r : ℕ) → body_verdict ys ≡ Fine → Stands t (info_at base r ys)
  unfolding info_at fields_at
  read-stands r v =
      let b = body-known ys v in
      let q = rest-known ys b.1 in
      let is : List LinkItem = item_infos base (item_count ys) ys (items_place ys) in
      let counted : take (item_count ys) (filled is) ≡ is = take_at is (replicate (63 - length is) no_item) (item_count ys) (length-infos base (item_count ys) ys (items_place ys)) in
      record {
        count = omega arith;
        ranges = record {
          uri = uri-within (uri_due (type_at ys)) (front-known ys b.0).uri;
          texts = rw counted (infos-within (item_count ys) (items_place ys) q.0);
          descriptors = omega (arith, q.1);
        };
      }

-- ---- the outcome of a call that was accepted

pub record Held (o : Outcome) : Type 0 where
  pub verdict : o.verdict ≡ Fine
  pub section : Section
  pub holds : Holds section o.buffer
  pub total : o.total ≡ full_length section

pub stepped-held : (s : Section) (new old : List ℕ) (o : Outcome) → Stepped s new old o → Held o
stepped-held s new old o st = record { verdict = st.verdict; section = s; holds = st.holds; total = st.total }

-- and then of one that appends
pub next-held : (o : Outcome) (l : Link) → LinkFits l → Held o → (appended o.buffer Fine l).verdict ≡ Fine → Held (appended o.buffer Fine l)
next-held o l f h a =
    let can = append-can Fine l (λ e. f) h.section o.buffer h.holds (sym (appended-verdict o.buffer Fine l) ∙ a) in
    stepped-held (with_next h.section l) _ _ _ (append-stepped Fine l (λ e. f) h.section o.buffer h.holds can)

-- ---- the links of an accepted section

module _ (xs : List ℕ) (b : Bytes xs) (v : plain xs ≡ Fine) where
  module _ (k : ℕ) (h : k < count_at xs) where
    known : LinkKnown xs k
    known = link-known xs k b (rows-fine xs k v h)

    inside : block_end xs (link_place xs k) ≤ length xs
    inside = omega (arith, known.within, known.end)

    read_fits : LinkFits (link_in xs (link_place xs k))
    read_fits = (entry_read_lem xs (link_place xs k) b inside known.good).fit.link

    read_is : link_got (numbered_link xs k) ≡ entry_info xs (link_place xs k)
    read_is = ap link_got (link-answer xs b k v h)

    read-image : link_of xs (link_got (numbered_link xs k)) ≡ link_in xs (link_place xs k)
    read-image = link_image xs b k v h (link_in xs (link_place xs k)) ∙ known.link (link_in xs (link_place xs k))

    read-passes : check_link xs (link_got (numbered_link xs k)) ≡ Fine
    read-passes = fits-check xs (link_got (numbered_link xs k)) (rw read-image read_fits) (rw read_is stands)
      where
        size : length (body_of xs k) ≡ length_at xs (link_place xs k)
        size = length_part xs (body_place xs k) (length_at xs (link_place xs k)) (omega (arith, inside))

        stands : Stands xs (entry_info xs (link_place xs k))
        stands = read-stands xs (body_place xs k) (body_of xs k) (omega (arith, size, inside)) (beside_at xs (link_place xs k)) known.good

    append-again : (zs : List ℕ) → appending zs xs (link_got (numbered_link xs k)) ≡ appended zs Fine (link_in xs (link_place xs k))
    unfolding appending
    append-again zs = rw (read-passes, read-image)

  -- n of them from link k on, appended behind o
  pub record Ran (o : Outcome) (n k : ℕ) : Type 0 where
    pub accepted : AllAccepted o xs (links_from n k xs)
    pub buffer : (append_all o xs (links_from n k xs)).buffer ≡ appends o.buffer (links_at n xs (link_place xs k))
    pub held : Held (append_all o xs (links_from n k xs))

  pub ran : (n k : ℕ) (o : Outcome) → k + n ≤ count_at xs → Held o → NoneRefused o.buffer (links_at n xs (link_place xs k)) → Ran o n k
  ran zero k o h e r = record { accepted = e.verdict; buffer = refl; held = e }
  ran (suc n) k o h e r =
      let below : k < count_at xs = omega arith in
      let l : Link = link_in xs (link_place xs k) in
      let same = append-again k below o.buffer in
      let next : link_place xs (k + 1) ≡ block_end xs (link_place xs k) = after_next k xs section.head_length in
      let one : Held (appending o.buffer xs (link_got (numbered_link xs k))) = rw same (next-held o l (read_fits k below) e r.0) in
      let i = ran n (k + 1) (appending o.buffer xs (link_got (numbered_link xs k))) (omega arith) one (rw (same, next) r.1) in
      record {
        accepted = (e.verdict, i.accepted);
        buffer = i.buffer ∙ rw (same, next);
        held = i.held;
      }

-- ---- the header and the loop

pub make-again : (xs : List ℕ) (b : Bytes xs) → plain xs ≡ Fine → (header_at xs).section_syntax_indicator ≡ true → (zs : List ℕ) → made_again zs xs (section_info xs) ≡ made zs Fine (bare (section_at xs).header (section_at xs).loop)
unfolding making section_at
make-again xs b v i zs = rw passes
  where
    a : Accepted plain_demands xs
    a = accepted plain_demands xs b v

    f : Fits plain_demands (section_at xs)
    f = accepted-fits plain_demands xs b v

    passes : check_making (rct_header_at xs) (beside_at xs (loop_place xs)) (length xs) (record { start = loop_place xs + 2; length = length_at xs (loop_place xs) }) ≡ Fine
    passes = unfold check_making check_loop in
        fine-then _ _ (header-pass (header_at xs) (record { indicated = i; narrow = record { reserved1 = f.header.section.reserved1; version = f.header.section.version; reserved5 = f.header.section.reserved5 } }))
        (fine-then _ _ (fine-then _ _ (field-pass loop_length _ (length-short xs (loop_place xs) b)) (field-pass loop_length_reserved _ (beside-narrow xs (loop_place xs) b)))
        (range-pass xs (record { start = loop_place xs + 2; length = length_at xs (loop_place xs) }) (omega (arith, a.loop_end, a.frame.within))))
