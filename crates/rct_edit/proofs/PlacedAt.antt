-- The numbers that an accepted edit answers beside its total are what is read of the buffer: before it the section's total and its number of links, and behind it the place where the link stands.
-- Assumes nothing.
use Prim.Native.Nat.{ℕ, ◌+◌, ◌<◌}
use mathlib.Core.Path.{◌≡◌, sym, ap, ◌∙◌}
use mathlib.Core.List.{List, [], ◌∷◌}
use native.Mathlib.Omega.{arith}
use lib.ListN.{length}
use lib.Seq.{take-set-le, take-append-le}
use Rattle.wire.specs.Lists.{Bytes}
use Rattle.link.specs.Syntax.{Link, LinkFits}
use Rattle.link.specs.Records.{link_of}
use Rattle.link.specs.declared.LinkInfo.{LinkInfo}
use Rattle.link_draft.specs.Carried.{Carried}
use Rattle.link_draft.specs.Checks.{check_link}
use Rattle.link_draft.proofs.Exact.{check-fits}
use Rattle.frame.specs.Reading.{checked_demands, total_of}
use Rattle.frame.proofs.Readings.{checked-reading}
use Rattle.rct.specs.Syntax.{rct, head_length, Section, links_bytes, entry_place}
use Rattle.rct.specs.Reading.{count_at, link_place, section_at, payload_verdict, checked}
use Rattle.rct.proofs.Accepted.{place_is}
use Rattle.rct.proofs.Checked.{holds-known, holds-total, checked-holds, count_is}
use Rattle.rct_edit.specs.Edit.{with_link, with_next, written, Outcome, replaced, appended}
use Rattle.rct_edit.specs.Calls.{appending, replacing, placed, appending_placed, replacing_placed}
use Rattle.rct_edit.proofs.Calls.{Stepped, replaced-verdict, appended-verdict, replace-checked, append-checked, replace-can, replaced-stepped, appended-stepped}
use Rattle.rct_edit.proofs.Placed.{placed-done}
use Rattle.rct_edit.proofs.Records.{length-with, length-next}
use Rattle.rct_edit.proofs.Written.{written-bytes}
use Rattle.edit_answers.specs.Answers.{spliced_at}
use Rattle.wire.specs.Verdict.{Fine}

-- an edit of the section in xs at number k
pub record Stands (xs : List ℕ) (k : ℕ) (o : Outcome) (total before count at : ℕ) : Type 0 where
  pub passed : checked o.buffer ≡ Fine
  pub after : total_of o.buffer ≡ total
  pub old : total_of xs ≡ before
  pub links : count_at xs ≡ count
  pub place : link_place o.buffer k ≡ at

-- the named link stands where it stood, or where the next one would go
with-stays : (s : Section) (k : ℕ) (l : Link) → entry_place (with_link s k l) k ≡ entry_place s k
unfolding with_link
with-stays s k l = ap (λ r. head_length + length (links_bytes r)) (take-set-le k s.links k l (omega arith))

next-stays : (s : Section) (l : Link) → entry_place (with_next s l) (length s.links) ≡ entry_place s (length s.links)
unfolding with_next
next-stays s l = ap (λ r. head_length + length (links_bytes r)) (take-append-le (length s.links) s.links (l ∷ []) (omega arith))

module _ (xs : List ℕ) (b : Bytes xs) (c : checked xs ≡ Fine) (k : ℕ) (s' : Section) (o : Outcome) (st : Stepped s' (written xs s') xs o) (below : k < length s'.links) (stays : entry_place s' k ≡ entry_place (section_at xs) k) where
  stands : (total before count at : ℕ) → placed o (section_at xs) k ≡ spliced_at total before count at → Stands xs k o total before count at
  stands total before count at e =
      let d = placed-done o _ _ _ _ _ _ _ e in
      let known = holds-known s' o.buffer st.holds in
      let bytes : Bytes o.buffer = rw st.buffer (written-bytes xs s' b st.holds.fits) in
      let same = known.same in
      let many : count_at o.buffer ≡ length s'.links = sym (count_is o.buffer) ∙ ap (λ (s : Section). length s.links) same in
      record {
        passed = known.passed;
        after = holds-total s' o.buffer st.holds ∙ sym st.total ∙ d.total;
        old = holds-total (section_at xs) xs (checked-holds xs b c) ∙ d.before;
        links = sym (count_is xs) ∙ d.count;
        place = place_is checked_demands o.buffer bytes (checked-reading rct payload_verdict o.buffer known.passed) k (omega (arith, many)) ∙ ap (λ s. entry_place s k) same ∙ stays ∙ d.at;
      }

module _ (xs t : List ℕ) (a : LinkInfo) (b : Bytes xs) (bt : Bytes t) (c : Carried a) (total before count at : ℕ) where
  good : check_link t a ≡ Fine → LinkFits (link_of t a)
  good = check-fits t a bt c

  pub replaced-stands : (k : ℕ) → replacing_placed xs k t a ≡ spliced_at total before count at → Stands xs k (replacing xs k t a) total before count at
  unfolding replacing_placed replacing
  replaced-stands k e =
      let v = check_link t a in
      let f = (placed-done (replaced xs k v (link_of t a)) _ _ _ _ _ _ _ e).fine in
      let passed = sym (replaced-verdict xs k v (link_of t a)) ∙ f in
      let checks = replace-checked xs k v (link_of t a) passed in
      let below = (replace-can v (link_of t a) good (section_at xs) xs (checked-holds xs b checks) k passed).below in
      stands xs b checks k (with_link (section_at xs) k (link_of t a)) (replaced xs k v (link_of t a)) (replaced-stepped xs b v (link_of t a) good k f)
      (omega (arith, below, length-with (section_at xs) k (link_of t a))) (with-stays (section_at xs) k (link_of t a)) total before count at e

  pub appended-stands : appending_placed xs t a ≡ spliced_at total before count at → Stands xs (count_at xs) (appending xs t a) total before count at
  unfolding appending_placed appending
  appended-stands e =
      let v = check_link t a in
      let f = (placed-done (appended xs v (link_of t a)) _ _ _ _ _ _ _ e).fine in
      let checks = append-checked xs v (link_of t a) (sym (appended-verdict xs v (link_of t a)) ∙ f) in
      rw (← count_is xs)
      (stands xs b checks (length (section_at xs).links) (with_next (section_at xs) (link_of t a)) (appended xs v (link_of t a)) (appended-stepped xs b v (link_of t a) good f)
      (omega (arith, length-next (section_at xs) (link_of t a))) (next-stays (section_at xs) (link_of t a)) total before count at e)
