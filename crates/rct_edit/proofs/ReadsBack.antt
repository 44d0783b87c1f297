-- Demand 2, read back: what making, appending and replacing wrote passes the checked reading, which gives the records that were written; and what lies behind the section stays.
-- Assumes nothing.
use mathlib.Core.Path.{◌≡◌, sym, ap, ◌∙◌}
use mathlib.Core.Logic.{◌≢◌}
use Prim.Native.Nat.{ℕ, ◌+◌, ◌-◌, ◌<◌, max}
use native.Mathlib.Omega.{arith}
use mathlib.Core.List.{List, ◌++◌, append_assoc}
use lib.ListN.{length, drop, get_or, replicate, length-append, length-replicate}
use lib.Seq.{drop_at}
use Rattle.wire.specs.Lists.{Bytes}
use Rattle.length_field.specs.Lengths.{Block}
use Rattle.link.specs.Syntax.{Link, LinkFits}
use Rattle.frame.specs.Reading.{total_of}
use Rattle.rct.specs.declared.RctHeader.{RctHeader}
use Rattle.rct.specs.Syntax.{Section, full_length, sealed}
use Rattle.rct.specs.Reading.{count_at, section_at, checked}
use Rattle.rct.proofs.Checked.{length-sealed, Known, holds-known, holds-total, count_is}
use Rattle.rct_edit.specs.Edit.{filler, bare, with_link, with_next, written, fresh, Outcome, replaced, appended, made}
use Rattle.rct_edit.proofs.Records.{with-named, with-others, length-with, next_last, next-others, length-next}
use Rattle.rct_edit.proofs.Calls.{Stepped, Parts, replaced-stepped, appended-stepped, made-stepped}
use Rattle.wire.specs.Verdict.{Fine, Verdict}

-- the buffer passes the checked reading, which gives s; the answer is its total
pub record ReadsBack (s : Section) (o : Outcome) : Type 0 where
  pub passed : checked o.buffer ≡ Fine
  pub same : section_at o.buffer ≡ s
  pub total : total_of o.buffer ≡ o.total

stepped-reads : (s : Section) (new old : List ℕ) (o : Outcome) → Stepped s new old o → ReadsBack s o
stepped-reads s new old o st =
    let k : Known s o.buffer = holds-known s o.buffer st.holds in
    record { passed = k.passed; same = k.same; total = holds-total s o.buffer st.holds ∙ sym st.total }

pub made-back : (xs : List ℕ) (v : Verdict) (h : RctHeader) (b : Block) → (v ≡ Fine → Parts h b) → (made xs v (bare h b)).verdict ≡ Fine
    → ReadsBack (bare h b) (made xs v (bare h b))
made-back xs v h b good a = stepped-reads (bare h b) (fresh xs (bare h b)) xs (made xs v (bare h b)) (made-stepped xs v h b good a)

module _ (xs : List ℕ) (b : Bytes xs) (v : Verdict) (l : Link) (good : v ≡ Fine → LinkFits l) where
  pub replaced-back : (k : ℕ) → (replaced xs k v l).verdict ≡ Fine → ReadsBack (with_link (section_at xs) k l) (replaced xs k v l)
  replaced-back k a = stepped-reads (with_link (section_at xs) k l) (written xs (with_link (section_at xs) k l)) xs (replaced xs k v l) (replaced-stepped xs b v l good k a)

  pub appended-back : (appended xs v l).verdict ≡ Fine → ReadsBack (with_next (section_at xs) l) (appended xs v l)
  appended-back a = stepped-reads (with_next (section_at xs) l) (written xs (with_next (section_at xs) l)) xs (appended xs v l) (appended-stepped xs b v l good a)

  -- link i afterwards: the new one where it was named, and else what it was
  pub replaced-named : (k : ℕ) (d : Link) → (replaced xs k v l).verdict ≡ Fine → k < count_at xs → get_or (section_at (replaced xs k v l).buffer).links k d ≡ l
  replaced-named k d a h =
      ap (λ (s : Section). get_or s.links k d) (replaced-back k a).same ∙ with-named (section_at xs) k l d (omega (arith, count_is xs))

  pub replaced-others : (k i : ℕ) (d : Link) → (replaced xs k v l).verdict ≡ Fine → i ≢ k → get_or (section_at (replaced xs k v l).buffer).links i d ≡ get_or (section_at xs).links i d
  replaced-others k i d a n = ap (λ (s : Section). get_or s.links i d) (replaced-back k a).same ∙ with-others (section_at xs) k i l d n

  pub replaced-count : (k : ℕ) → (replaced xs k v l).verdict ≡ Fine → count_at (replaced xs k v l).buffer ≡ count_at xs
  replaced-count k a =
      sym (count_is (replaced xs k v l).buffer) ∙ ap (λ (s : Section). length s.links) (replaced-back k a).same ∙ length-with (section_at xs) k l ∙ count_is xs

  pub appended-last : (d : Link) → (appended xs v l).verdict ≡ Fine → get_or (section_at (appended xs v l).buffer).links (count_at xs) d ≡ l
  appended-last d a =
      ap (λ (s : Section). get_or s.links (count_at xs) d) (appended-back a).same
      ∙ ap (λ n. get_or (with_next (section_at xs) l).links n d) (sym (count_is xs)) ∙ next_last (section_at xs) l d

  pub appended-others : (i : ℕ) (d : Link) → (appended xs v l).verdict ≡ Fine → i < count_at xs → get_or (section_at (appended xs v l).buffer).links i d ≡ get_or (section_at xs).links i d
  appended-others i d a h = ap (λ (s : Section). get_or s.links i d) (appended-back a).same ∙ next-others (section_at xs) i l d (omega (arith, count_is xs))

  pub appended-count : (appended xs v l).verdict ≡ Fine → count_at (appended xs v l).buffer ≡ count_at xs + 1
  appended-count a =
      sym (count_is (appended xs v l).buffer) ∙ ap (λ (s : Section). length s.links) (appended-back a).same
      ∙ length-next (section_at xs) l ∙ ap (λ n. n + 1) (count_is xs)

-- ---- behind the section

-- every byte past both ends stays
pub written_behind : (xs : List ℕ) (s : Section) → drop (max (total_of xs) (full_length s)) (written xs s) ≡ drop (max (total_of xs) (full_length s)) xs
unfolding written
written_behind xs s =
    sym (ap (drop n) (append_assoc (sealed s) (replicate (total_of xs - full_length s) filler) (drop n xs)))
    ∙ drop_at (sealed s ++ replicate (total_of xs - full_length s) filler) (drop n xs) n (simp (length-append, length-sealed s, length-replicate) (omega arith))
  where
    n : ℕ
    n = max (total_of xs) (full_length s)

pub fresh-behind : (xs : List ℕ) (s : Section) → drop (full_length s) (fresh xs s) ≡ drop (full_length s) xs
unfolding fresh
fresh-behind xs s = drop_at (sealed s) (drop (full_length s) xs) (full_length s) (length-sealed s)
