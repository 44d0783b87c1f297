-- Demand 2, read back: what the reading calls answer of a buffer in which a section was made, a link appended or a link replaced, and what lies behind the section there.
-- Assumes nothing.
use Prim.Native.Nat.{ℕ, ◌+◌, ◌<◌}
use mathlib.Core.Path.{◌≡◌, refl, sym, ap, ◌∙◌}
use native.Mathlib.Omega.{arith}
use mathlib.Core.List.{List}
use lib.ListN.{length}
use Rattle.wire.specs.Lists.{Bytes}
use Rattle.length_field.specs.Lengths.{Block}
use Rattle.wire.proofs.Lists.{bytes-part}
use Rattle.link.specs.Syntax.{Link, LinkFits}
use Rattle.link.specs.Records.{link_of}
use Rattle.link.specs.declared.Range.{Range}
use Rattle.link.specs.declared.LinkInfo.{LinkInfo}
use Rattle.link_draft.specs.Carried.{Carried}
use Rattle.link_draft.specs.Checks.{check_link}
use Rattle.link_draft.proofs.Exact.{check-fits}
use Rattle.link_draft.proofs.Sizes.{range_length}
use Rattle.rct.specs.declared.RctHeader.{RctHeader}
use Rattle.rct.specs.Syntax.{Section}
use Rattle.rct.specs.Reading.{number_row, count_at, section_at, checked}
use Rattle.rct.proofs.Checked.{count_is, number_passed}
use Rattle.rct_reader.specs.Sections.{section_info}
use Rattle.rct_reader.proofs.Wholes.{fine-read}
use Rattle.rct_edit.specs.Edit.{bare, with_link, with_next, written, fresh, replace_verdict, Outcome}
use Rattle.rct_edit.specs.Making.{check_making, HeaderCarried, loop_of}
use Rattle.rct_edit.specs.Calls.{making, appending, replacing}
use Rattle.rct_edit.proofs.Calls.{Stepped, Parts, edit-passed, replaced-verdict, appended-verdict, replace-checked, append-checked, replaced-stepped, appended-stepped, made-stepped}
use Rattle.rct_edit.proofs.Narrow.{header-written, loop-narrow}
use Rattle.rct_edit.proofs.Records.{length-with, length-next}
use Rattle.rct_edit.proofs.ReadsBack.{ReadsBack, made-back, replaced-back, replaced-named, replaced-others, replaced-count, appended-back, appended-last, appended-others, appended-count, fresh-behind}
use Rattle.rct_demands.specs.Back.{MadeBack, SectionKept, ReplacedBack, AppendedBack}
use Rattle.rct_demands.proofs.Answers.{Answers, answers, section-back}
use Rattle.rct_demands.proofs.Edits.{link-written, link-kept, behind-written}
use Rattle.wire.specs.Verdict.{Fine}

-- ---- making

pub made-reads-back : (xs : List ℕ) (h : RctHeader) (beside : ℕ) (t : List ℕ) (d : Range) → Bytes t → HeaderCarried h → (making xs h beside t d).verdict ≡ Fine
    → MadeBack xs h beside t d (making xs h beside t d)
unfolding making
made-reads-back xs h beside t d bt c a =
    record {
      syntax = reads.same;
      section = section-back s (making xs h beside t d) reads;
      size = st.size;
      past = rw (st.buffer, st.total) (fresh-behind xs s);
    }
  where
    s : Section
    s = bare h (loop_of beside t d)

    good : check_making h beside (length t) d ≡ Fine → Parts h (loop_of beside t d)
    good e =
        let w = header-written h beside t d e in
        let n = w.narrow in
        let l = loop-narrow h beside t d e in
        record {
          header = record { section = record { reserved1 = n.reserved1; extension = c.extension; reserved5 = n.reserved5; version = n.version; number = c.number; last = c.last }; year = c.year };
          indicated = w.indicated;
          loop = record { narrow = l.narrow; short = rw (range_length t d l.within) l.short; bytes = bytes-part t d.start d.length bt };
        }

    reads : ReadsBack s (making xs h beside t d)
    reads = made-back xs (check_making h beside (length t) d) h (loop_of beside t d) good a

    st : Stepped s (fresh xs s) xs (making xs h beside t d)
    st = made-stepped xs (check_making h beside (length t) d) h (loop_of beside t d) good a

-- ---- replacing and appending

module _ (xs : List ℕ) (b : Bytes xs) (t : List ℕ) (a : LinkInfo) (bt : Bytes t) (c : Carried a) where
  good : check_link t a ≡ Fine → LinkFits (link_of t a)
  good = check-fits t a bt c

  -- a section with other links, by the old answers
  kept : (s : Section) (n : ℕ) (o : Outcome) → s.header ≡ (section_at xs).header → s.loop ≡ (section_at xs).loop → length s.links ≡ n → ReadsBack s o → SectionKept xs (section_info xs) o n
  kept s n o eh el en r =
      let old = answers xs in
      let new = section-back s o r in
      record {
        read = new.read;
        answer = new.answer;
        total = new.total;
        header = new.header ∙ eh ∙ sym old.header;
        links = new.links ∙ en;
        reserved = new.reserved ∙ ap (λ (l : Block). l.beside) el ∙ sym old.reserved;
        loop = new.loop ∙ ap (λ (l : Block). l.body) el ∙ sym old.loop;
      }

  pub replaced-reads-back : (k : ℕ) → (replacing xs k t a).verdict ≡ Fine → ReplacedBack xs k t a (replacing xs k t a)
  unfolding replacing
  replaced-reads-back k f =
      record {
        old = section_info xs;
        was = fine-read (checked xs) xs v;
        below = omega (arith, told.links, below);
        syntax = reads.same;
        section = unfold with_link in kept s (section_info xs).number_of_links o refl refl (length-with (section_at xs) k l ∙ count_is xs ∙ sym told.links) reads;
        named = link-written xs b v s o st k t a (omega (arith, count, below)) (λ d. replaced-named xs b (check_link t a) l good k d f below);
        others = λ i h n. link-kept xs b v s o st i (omega (arith, told.links)) (omega (arith, count, told.links)) (λ d. replaced-others xs b (check_link t a) l good k i d f n);
        behind = behind-written xs b v s o st;
      }
    where
      l : Link
      l = link_of t a

      s : Section
      s = with_link (section_at xs) k l

      o : Outcome
      o = replacing xs k t a

      fine : replace_verdict xs k (check_link t a) l ≡ Fine
      fine = sym (replaced-verdict xs k (check_link t a) l) ∙ f

      v : checked xs ≡ Fine
      v = replace-checked xs k (check_link t a) l fine

      told : Answers xs (section_info xs)
      told = answers xs

      below : k < count_at xs
      below = unfold replace_verdict in number_passed xs k (edit-passed xs (number_row xs k) (check_link t a) s fine).row_fine

      reads : ReadsBack s o
      reads = replaced-back xs b (check_link t a) l good k f

      st : Stepped s (written xs s) xs o
      st = replaced-stepped xs b (check_link t a) l good k f

      count : count_at o.buffer ≡ count_at xs
      count = replaced-count xs b (check_link t a) l good k f

  pub appended-reads-back : (appending xs t a).verdict ≡ Fine → AppendedBack xs t a (appending xs t a)
  unfolding appending
  appended-reads-back f =
      record {
        old = section_info xs;
        was = fine-read (checked xs) xs v;
        syntax = reads.same;
        section = unfold with_next in kept s ((section_info xs).number_of_links + 1) o refl refl (length-next (section_at xs) l ∙ ap (λ n. n + 1) (count_is xs ∙ sym told.links)) reads;
        last = rw told.links (link-written xs b v s o st (count_at xs) t a (omega (arith, count)) (λ d. appended-last xs b (check_link t a) l good d f));
        others = λ i h. link-kept xs b v s o st i (omega (arith, told.links)) (omega (arith, count, told.links)) (λ d. appended-others xs b (check_link t a) l good i d f (omega (arith, told.links)));
        behind = behind-written xs b v s o st;
      }
    where
      l : Link
      l = link_of t a

      s : Section
      s = with_next (section_at xs) l

      o : Outcome
      o = appending xs t a

      v : checked xs ≡ Fine
      v = append-checked xs (check_link t a) l (sym (appended-verdict xs (check_link t a) l) ∙ f)

      told : Answers xs (section_info xs)
      told = answers xs

      reads : ReadsBack s o
      reads = appended-back xs b (check_link t a) l good f

      st : Stepped s (written xs s) xs o
      st = appended-stepped xs b (check_link t a) l good f

      count : count_at o.buffer ≡ count_at xs + 1
      count = appended-count xs b (check_link t a) l good f
