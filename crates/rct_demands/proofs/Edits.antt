-- A section s that a call has written over the one in xs: which links are read back, and what lies behind.
-- Assumes nothing.
use Prim.Native.Nat.{ℕ, ◌<◌}
use mathlib.Core.Path.{◌≡◌, sym, ap, ◌∙◌}
use mathlib.Core.List.{List}
use lib.ListN.{get_or}
use Rattle.wire.specs.Lists.{Bytes}
use Rattle.link.specs.Syntax.{Link}
use Rattle.link.specs.Records.{link_of}
use Rattle.link.specs.declared.LinkInfo.{LinkInfo}
use Rattle.rct.specs.Syntax.{Section}
use Rattle.rct.specs.Reading.{count_at, section_at, plain, checked}
use Rattle.rct.proofs.Checked.{checked-iff, holds-known}
use Rattle.rct_reader.specs.Sections.{section_info}
use Rattle.rct_links.specs.Links.{numbered_link}
use Rattle.rct_links.proofs.Images.{link-answer, link_image}
use Rattle.rct_edit.specs.Edit.{written, Outcome}
use Rattle.rct_edit.proofs.Calls.{Stepped}
use Rattle.rct_edit.proofs.ReadsBack.{written_behind}
use Rattle.rct_demands.specs.Back.{LinkBack, LinkKept, Behind}
use Rattle.rct_edit.proofs.Written.{written-freed, written-bytes}
use Rattle.rct_demands.proofs.Answers.{link-back}
use Rattle.wire.specs.Verdict.{Fine, verdict_of}
use Rattle.link.specs.Answers.{link_got}

module _ (xs : List ℕ) (b : Bytes xs) (v : checked xs ≡ Fine) (s : Section) (o : Outcome) (st : Stepped s (written xs s) xs o) where
  bytes : Bytes o.buffer
  bytes = rw st.buffer (written-bytes xs s b st.holds.fits)

  was : plain xs ≡ Fine
  was = ((checked-iff xs).0 v).plainly

  now : plain o.buffer ≡ Fine
  now = ((checked-iff o.buffer).0 (holds-known s o.buffer st.holds).passed).plainly

  pub link-written : (k : ℕ) (t : List ℕ) (a : LinkInfo) → k < count_at o.buffer → ((d : Link) → get_or (section_at o.buffer).links k d ≡ link_of t a) → LinkBack o.buffer k t a
  link-written k t a h e = link-back o.buffer bytes now k h t a (link_image o.buffer bytes k now h (link_of t a) ∙ e (link_of t a))

  pub link-kept : (k : ℕ) → k < count_at xs → k < count_at o.buffer → ((d : Link) → get_or (section_at o.buffer).links k d ≡ get_or (section_at xs).links k d) → LinkKept xs o.buffer k
  link-kept k h l e =
      record {
        was = ap verdict_of (link-answer xs b k was h);
        is = link-written k xs (link_got (numbered_link xs k)) l (λ d. e d ∙ sym (link_image xs b k was h d));
      }

  pub behind-written : Behind xs o.buffer (section_info xs).total o.total
  behind-written =
      record {
        size = st.size;
        freed = rw (st.buffer, st.total) (written-freed xs s);
        past = rw (st.buffer, st.total) (written_behind xs s);
      }
