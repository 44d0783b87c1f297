-- When an index can be built, what it then tells, which numbers building answers; and the index that an edit answers is the one that is built afresh of the new section, if the one handed in was the old section's.
-- Assumes nothing.
use Prim.Native.Nat.{ℕ, ◌+◌, ◌≤◌, ◌<◌}
use mathlib.Core.Path.{◌≡◌, refl, sym, ap, ◌∙◌}
use mathlib.Core.Logic.{◌↔◌}
use mathlib.Core.List.{List, [], ◌∷◌, ◌++◌}
use native.Mathlib.Omega.{arith}
use lib.ListN.{length}
use Rattle.wire.specs.Lists.{Bytes, part}
use Rattle.length_field.specs.Lengths.{length_at}
use Rattle.wire.proofs.Lists.{length_part}
use Rattle.wire.specs.Refusals.{descriptor_cut}
use Rattle.wire.specs.Verdict.{bad, Fine, Verdict}
use Rattle.wire.specs.declared.verdict.Refusal.{Refusal}
use Rattle.wire.proofs.Among.{Among, among_then, among-more, among-never, never-past}
use Rattle.wire.proofs.Verdicts.{then-fine, fine-then, go_on, ok-same}
use Rattle.number_set.specs.Members.{size}
use Rattle.descriptors.specs.Syntax.{loop_bytes}
use Rattle.descriptors.specs.Reading.{descriptors_of, cut_verdict}
use Rattle.descriptors.proofs.Rebuild.{loop-rebuilt}
use Rattle.descriptors.proofs.Loops.{cut-same, cut-listed}
use Rattle.descriptors.proofs.Cuts.{Cut, cut-exactly}
use Rattle.link.specs.Syntax.{LinkFits}
use Rattle.link.specs.Records.{link_of}
use Rattle.link.specs.declared.LinkInfo.{LinkInfo}
use Rattle.link_draft.specs.Carried.{Carried}
use Rattle.link_draft.specs.Checks.{check_link}
use Rattle.link_draft.proofs.Exact.{check-fits}
use Rattle.frame.specs.Reading.{payload_end, plain_demands}
use Rattle.rct.specs.Syntax.{Section, Fits, full_length, entry_place}
use Rattle.rct.specs.Reading.{count_at, loop_place, number_row, section_at, plain, checked}
use Rattle.rct.proofs.Accepted.{accepted, accepted-fits, place_is}
use Rattle.rct.proofs.Checked.{Holds, holds-known, checked-holds, checked-iff, count_is, number_passed}
use Rattle.rct.proofs.Listed.{plain_reading, plain-listed}
use Rattle.rct_edit.specs.Edit.{most_links, with_link, with_next, written, count_row, replace_verdict, append_verdict, Outcome, replaced, appended}
use Rattle.rct_edit.specs.Calls.{appending, replacing}
use Rattle.rct_edit.proofs.Calls.{Stepped, edit-passed, replaced-verdict, appended-verdict, replace-checked, append-checked, replace-can, append-can, replaced-stepped, appended-stepped}
use Rattle.rct_index.specs.Index.{link_marks, index_of, place_in}
use Rattle.rct_index.specs.Building.{descriptor_place, loop_rows, build_verdict, built, building}
use Rattle.rct_index.specs.Editing.{turns, brought_up, appending_indexed, replacing_indexed}
use Rattle.rct_index.specs.declared.RctIndex.{RctIndex}
use Rattle.rct_index.proofs.BroughtUp.{index-with, index-next}
use Rattle.rct_index.proofs.Anew.{SetsFit, Anew, anew}
use Rattle.rct_index.proofs.Members.{by_uri, by_locator, by_icon, Told, uri-tells, locator-tells, icon-tells}
use Rattle.rct_index.proofs.Places.{index-place, index-past}
use Rattle.std.specs.Prelude.{Err, Ok}

-- ---- when it can be built

-- not refused, and i is the index
abbrev pub Builds : List ℕ → RctIndex → Type 0
Builds xs i = building xs ≡ Ok i

-- the plain reading accepts the section, its loop is descriptors from end to end, and the index is the one that the records have
pub record Whole (xs : List ℕ) (i : RctIndex) : Type 0 where
  pub plainly : plain xs ≡ Fine
  pub uncut : loop_rows (section_at xs) ≡ Fine
  pub is : i ≡ index_of (section_at xs)

built-fine : (v : Verdict) (i j : RctIndex) → built v i ≡ Ok j → (v ≡ Fine) × (i ≡ j)
unfolding built
built-fine (Ok _) i j e = (refl, ok-same i j e)
built-fine (Err r) i j e = let z : ◌≡◌ {A = ℕ} 0 1 = cc in absurd (omega arith)

-- a refusal of building is that of its rows
pub built-refused : (v : Verdict) (i : RctIndex) (r : Refusal) → built v i ≡ Err r → v ≡ Err r
unfolding built
built-refused (Ok _) i r e = let z : ◌≡◌ {A = ℕ} 0 1 = cc in absurd (omega arith)
built-refused (Err q) i r e = cc

builds-whole : (xs : List ℕ) (i : RctIndex) → Builds xs i → Whole xs i
unfolding building build_verdict
builds-whole xs i e =
    let b = built-fine _ _ i e in
    let two = then-fine (plain xs) _ b.0 in
    record { plainly = two.0; uncut = two.1; is = sym b.1 }

whole-builds : (xs : List ℕ) (i : RctIndex) → Whole xs i → Builds xs i
unfolding building build_verdict built
whole-builds xs i w = rw (w.is, fine-then _ _ w.plainly w.uncut)

pub builds-exactly : (xs : List ℕ) (i : RctIndex) → Builds xs i ↔ Whole xs i
builds-exactly xs i = (builds-whole xs i, whole-builds xs i)

-- what the index tells of the section: the sets by number and in all, of each link where the syntax puts its entry, zeros past the last, and of the
-- loop how many descriptors its bytes are
pub record Tells (xs : List ℕ) (i : RctIndex) : Type 0 where
  pub uri : Told by_uri i.sets (section_at xs).links
  pub locator : Told by_locator i.sets (section_at xs).links
  pub icon : Told by_icon i.sets (section_at xs).links
  pub places : (k : ℕ) → k < length (section_at xs).links → place_in i.places k ≡ entry_place (section_at xs) k
  pub past : (k : ℕ) → length (section_at xs).links ≤ k → place_in i.places k ≡ 0
  pub descriptors : i.descriptors ≡ length (descriptors_of (section_at xs).loop.body)
  pub loop : loop_bytes (descriptors_of (section_at xs).loop.body) ≡ (section_at xs).loop.body

index-tells : (xs : List ℕ) → Fits plain_demands (section_at xs) → loop_rows (section_at xs) ≡ Fine → Tells xs (index_of (section_at xs))
unfolding index_of loop_rows
index-tells xs fits v =
    record {
      uri = uri-tells (section_at xs).links few;
      locator = locator-tells (section_at xs).links few;
      icon = icon-tells (section_at xs).links few;
      places = index-place (section_at xs);
      past = index-past (section_at xs);
      descriptors = refl;
      loop = (loop-rebuilt (descriptor_place (section_at xs)) (section_at xs).loop.body fits.loop.bytes v).same;
    }
  where
    few : length (section_at xs).links ≤ size
    few = omega (arith, fits.count)

pub built-tells : (xs : List ℕ) (i : RctIndex) → Bytes xs → Builds xs i → Tells xs i
built-tells xs i b e =
    let w = builds-whole xs i e in
    rw w.is (index-tells xs (accepted-fits plain_demands xs b w.plainly) w.uncut)

-- 39 exactly if the plain reading accepts the section and a descriptor of its loop is cut off, at that place of the section
pub build-cut : (xs : List ℕ) (q n : ℕ) → Bytes (section_at xs).loop.body
    → (build_verdict xs ≡ bad descriptor_cut q n) ↔ ((plain xs ≡ Fine) × Cut (descriptor_place (section_at xs)) (section_at xs).loop.body q n)
unfolding build_verdict loop_rows
build-cut xs q n b = (to, from)
  where
    p : ℕ
    p = descriptor_place (section_at xs)

    body : List ℕ
    body = (section_at xs).loop.body

    exactly : (cut_verdict p body ≡ bad descriptor_cut q n) ↔ Cut p body q n
    exactly = cut-exactly p body q n b

    to : build_verdict xs ≡ bad descriptor_cut q n → (plain xs ≡ Fine) × Cut p body q n
    to e =
        let two = never-past descriptor_cut q n (plain xs) _ (among-never plain_reading (plain xs) descriptor_cut (plain-listed xs) refl) e in
        (two.0, exactly.0 two.1)

    from : (plain xs ≡ Fine) × Cut p body q n → build_verdict xs ≡ bad descriptor_cut q n
    from w = go_on (plain xs) _ w.0 ∙ exactly.1 w.1

-- that place: the loop's bytes stand there, up to the CRC
pub record Stands (xs : List ℕ) : Type 0 where
  pub end : descriptor_place (section_at xs) + length (section_at xs).loop.body ≡ payload_end xs
  pub bytes : part xs (descriptor_place (section_at xs)) (length (section_at xs).loop.body) ≡ (section_at xs).loop.body

pub loop-stands : (xs : List ℕ) → Bytes xs → plain xs ≡ Fine → Stands xs
unfolding section_at
loop-stands xs b v =
    let a = accepted plain_demands xs b v in
    let p : descriptor_place (section_at xs) ≡ loop_place xs + 2 =
    ap (λ q. q + 2) (ap (entry_place (section_at xs)) (count_is xs) ∙ sym (place_is plain_demands xs b v (count_at xs) (omega arith))) in
    let n : length (part xs (loop_place xs + 2) (length_at xs (loop_place xs))) ≡ length_at xs (loop_place xs) =
    length_part xs (loop_place xs + 2) (length_at xs (loop_place xs)) (omega (arith, a.loop_end, a.frame.within)) in
    record { end = omega (arith, p, n, a.loop_end); bytes = λ i. part xs (p i) (n i) }

-- ---- the numbers that building answers: the plain reading's, and 39

abbrev pub build_reading : List ℕ
build_reading = plain_reading ++ descriptor_cut ∷ []

pub build-listed : (xs : List ℕ) → Among build_reading (build_verdict xs)
unfolding build_verdict loop_rows
build-listed xs =
    among_then build_reading _ _ (among-more plain_reading build_reading _ refl (plain-listed xs))
    (among-more (descriptor_cut ∷ []) build_reading _ refl (cut-listed _ _))

-- ---- of a buffer that holds a section

holds-builds : (s : Section) (xs : List ℕ) → Holds s xs → loop_rows s ≡ Fine → Builds xs (index_of s)
holds-builds s xs h v =
    let k = holds-known s xs h in
    whole-builds xs (index_of s) (record { plainly = ((checked-iff xs).0 k.passed).plainly; uncut = rw k.same v; is = rw k.same refl })

-- what is brought up by an edit that was accepted
brought : (v : Verdict) (new old : RctIndex) → v ≡ Fine → brought_up v new old ≡ new
unfolding brought_up
brought v new old e = rw e

-- the loop is what it was, wherever it stands now
same_rows : (s s' : Section) → s.loop ≡ s'.loop → loop_rows s ≡ Fine → loop_rows s' ≡ Fine
unfolding loop_rows
same_rows s s' e v = rw (← e) (cut-same (descriptor_place s) (descriptor_place s') s.loop.body v)

after-edit : (s : Section) (new old : List ℕ) (o : Outcome) (i : RctIndex) → Stepped s new old o → loop_rows s ≡ Fine → i ≡ index_of s → Builds o.buffer i
after-edit s new old o i st v e = rw e (holds-builds s o.buffer st.holds v)

module _ (xs t : List ℕ) (a : LinkInfo) (b : Bytes xs) (bt : Bytes t) (c : Carried a) (i : RctIndex) (old : Builds xs i) where
  good : check_link t a ≡ Fine → LinkFits (link_of t a)
  good = check-fits t a bt c

  w : Whole xs i
  w = builds-whole xs i old

  -- an index that was the old section's, brought up with a replacement, is the index that is built afresh of the new section
  pub replaced-index : (k : ℕ) → (replacing xs k t a).verdict ≡ Fine → Builds (replacing xs k t a).buffer (replacing_indexed xs k t a i).index
  unfolding replacing replacing_indexed
  replaced-index k f =
      after-edit s' _ xs _ _ st (same_rows (section_at xs) s' (unfold with_link in refl) w.uncut)
      (brought _ _ i f ∙ rw w.is (index-with (section_at xs) k (link_of t a) below (omega (arith, h.fits.count)) (omega (arith, h.fits.fits)) (omega (arith, st.holds.fits.fits))))
    where
      s' : Section
      s' = with_link (section_at xs) k (link_of t a)

      passed : replace_verdict xs k (check_link t a) (link_of t a) ≡ Fine
      passed = sym (replaced-verdict xs k (check_link t a) (link_of t a)) ∙ f

      h : Holds (section_at xs) xs
      h = checked-holds xs b (replace-checked xs k (check_link t a) (link_of t a) passed)

      below : k < length (section_at xs).links
      below = (replace-can (check_link t a) (link_of t a) good (section_at xs) xs h k passed).below

      st : Stepped s' (written xs s') xs (replaced xs k (check_link t a) (link_of t a))
      st = replaced-stepped xs b (check_link t a) (link_of t a) good k f

  -- the same with an append
  pub appended-index : (appending xs t a).verdict ≡ Fine → Builds (appending xs t a).buffer (appending_indexed xs t a i).index
  unfolding appending appending_indexed
  appended-index f =
      after-edit s' _ xs _ _ st (same_rows (section_at xs) s' (unfold with_next in refl) w.uncut)
      (brought _ _ i f ∙ rw w.is (index-next (section_at xs) (link_of t a) below (omega (arith, h.fits.fits)) (omega (arith, st.holds.fits.fits))))
    where
      s' : Section
      s' = with_next (section_at xs) (link_of t a)

      passed : append_verdict xs (check_link t a) (link_of t a) ≡ Fine
      passed = sym (appended-verdict xs (check_link t a) (link_of t a)) ∙ f

      h : Holds (section_at xs) xs
      h = checked-holds xs b (append-checked xs (check_link t a) (link_of t a) passed)

      below : length (section_at xs).links < most_links
      below = (append-can (check_link t a) (link_of t a) good (section_at xs) xs h passed).below

      st : Stepped s' (written xs s') xs (appended xs (check_link t a) (link_of t a))
      st = appended-stepped xs b (check_link t a) (link_of t a) good f

-- ---- of any index that is handed in

module _ (xs t : List ℕ) (a : LinkInfo) (b : Bytes xs) (i : RctIndex) (f : SetsFit i.sets) where
  -- what an accepted edit leaves known: the old section has few links and bytes
  small : checked xs ≡ Fine → (length (section_at xs).links ≤ most_links) × (full_length (section_at xs) ≤ turns)
  small c = let fits = (checked-holds xs b c).fits in (omega (arith, fits.count), omega (arith, fits.fits))

  pub replaced-anew : (k : ℕ) → (replacing xs k t a).verdict ≡ Fine
      → Anew i (replacing_indexed xs k t a i).index k (length (section_at xs).links) (entry_place (section_at xs) k) (full_length (section_at xs)) (full_length (with_link (section_at xs) k (link_of t a))) (link_marks (link_of t a))
  unfolding replacing replacing_indexed replace_verdict
  replaced-anew k e =
      let p = edit-passed xs (number_row xs k) (check_link t a) (with_link (section_at xs) k (link_of t a)) (sym (replaced-verdict xs k (check_link t a) (link_of t a)) ∙ e) in
      let two = small p.section_fine in
      rw (brought _ _ i e) (anew i k _ _ _ _ _ f (omega (arith, number_passed xs k p.row_fine, count_is xs, two.0)) two.1)

  pub appended-anew : (appending xs t a).verdict ≡ Fine
      → Anew i (appending_indexed xs t a i).index (length (section_at xs).links) (length (section_at xs).links) (entry_place (section_at xs) (length (section_at xs).links)) (full_length (section_at xs)) (full_length (with_next (section_at xs) (link_of t a))) (link_marks (link_of t a))
  unfolding appending appending_indexed append_verdict
  appended-anew e =
      let p = edit-passed xs (count_row xs) (check_link t a) (with_next (section_at xs) (link_of t a)) (sym (appended-verdict xs (check_link t a) (link_of t a)) ∙ e) in
      let two = small p.section_fine in
      rw (brought _ _ i e) (anew i _ _ _ _ _ _ f (omega (arith, two.0)) two.1)

-- ---- and an edit that is refused gives back the index that was handed in

pub replaced-keeps-index : (xs : List ℕ) (k : ℕ) (t : List ℕ) (a : LinkInfo) (i : RctIndex) (r : Refusal) → (replacing xs k t a).verdict ≡ Err r → (replacing_indexed xs k t a i).index ≡ i
unfolding replacing_indexed brought_up
replaced-keeps-index xs k t a i r e = rw e

pub appended-keeps-index : (xs t : List ℕ) (a : LinkInfo) (i : RctIndex) (r : Refusal) → (appending xs t a).verdict ≡ Err r → (appending_indexed xs t a i).index ≡ i
unfolding appending_indexed brought_up
appended-keeps-index xs t a i r e = rw e
