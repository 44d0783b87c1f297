-- Links told of one after the other: k of n are behind the walk, which stands at p.
-- Assumes nothing.
use Prim.Native.Nat.{ℕ, zero, suc, ◌+◌, ◌-◌, ◌≤◌, ◌<◌}
use mathlib.Core.Path.{◌≡◌, refl, sym, ap, ◌∙◌}
use mathlib.Core.List.{List, [], ◌∷◌, ◌++◌}
use native.Mathlib.Numerals.{add-one}
use native.Mathlib.Omega.{arith}
use lib.ListN.{length, set, drop, length-drop}
use lib.Seq.{take_all}
use Rattle.wire.specs.Lists.{Bytes}
use Rattle.length_field.specs.Lengths.{beside_at, block_end}
use Rattle.wire.specs.declared.verdict.Refusal.{Refusal}
use Rattle.wire.proofs.Verdicts.{go_on, refused-then, fine-then}
use Rattle.descriptors.specs.Reading.{descriptors_of, cut_verdict, counted}
use Rattle.descriptors.proofs.Loops.{count-le}
use Rattle.descriptors.proofs.Answers.{counted-number, counted-refused, refused-counted}
use Rattle.link.specs.Syntax.{Link}
use Rattle.link.specs.declared.LinkFields.{LinkFields}
use Rattle.rct.specs.Syntax.{head_length, links_bytes}
use Rattle.rct.specs.Reading.{body_in, link_in, after, links_at, links_verdict, loop_verdict}
use Rattle.rct.proofs.Links.{place_of, links-sum, length-links_at}
use Rattle.rct_edit.specs.Edit.{most_links}
use Rattle.rct_blocks.specs.Ends.{end_of}
use Rattle.rct_entries.specs.Entries.{entry_read, got_entry}
use Rattle.rct_entries.proofs.EntryLaws.{EntryHad, entry-had, entry-had-none}
use Rattle.rct_blocks.proofs.Entries.{after_next, turn_on, turn-stop}
use Rattle.rct_index.specs.Index.{link_marks, marks_in, sets_of, with_marks, entry_places, filled_places}
use Rattle.rct_index.specs.Building.{built}
use Rattle.rct_index.specs.declared.LinkSets.{LinkSets}
use Rattle.rct_index.specs.declared.RctIndex.{RctIndex}
use Rattle.rct_index.proofs.Marks.{read-marks}
use Rattle.rct_index.proofs.Members.{sets_more}
use Rattle.rct_index.proofs.Places.{filled_more, length-places, places-more}
use Rattle.rct_indexer.specs.Stages.{tail_rows, tail_count, payload_rows, payload_index}
use Rattle.std.specs.Prelude.{Err, Ok, Result}
use Rattle.wire.specs.Verdict.{Fine, Verdict}

-- one link more at the end
links-next : (k : ℕ) (ys : List ℕ) (p : ℕ) → links_at (suc k) ys p ≡ links_at k ys p ++ link_in ys (after k ys p) ∷ []
links-next zero ys p = refl
links-next (suc k) ys p = ap (λ (r : List Link). link_in ys p ∷ r) (links-next k ys (block_end ys p))

module _ (ys : List ℕ) (n : ℕ) where
  abbrev first : ℕ → List Link
  first k = links_at k ys head_length

  pub record Walking (k p : ℕ) (sets : LinkSets) (places : List ℕ) : Type 0 where
    pub behind : k ≤ n
    pub place : p ≡ after k ys head_length
    pub passed : links_verdict k ys (end_of ys) head_length ≡ Fine
    pub rest : links_verdict (n - k) ys (end_of ys) p ≡ links_verdict n ys (end_of ys) head_length
    pub told : sets ≡ sets_of (first k)
    pub stored : places ≡ filled_places (entry_places head_length (first k))

  pub walk_start : (sets : LinkSets) → sets ≡ sets_of [] → Walking 0 head_length sets (filled_places [])
  walk_start sets e =
      let z : n - 0 ≡ n = omega arith in
      record { behind = omega arith; place = refl; passed = refl; rest = rw z refl; told = e; stored = refl }

  module _ (b : Bytes ys) (few : n ≤ most_links) (k p : ℕ) (sets : LinkSets) (places : List ℕ) (w : Walking k p sets places) (h : k < n) where
    pub walk-stops : (r : Refusal) → entry_read ys p ≡ Err r → payload_rows n ys ≡ Err r
    unfolding payload_rows
    walk-stops r e = refused-then _ _ r (sym w.rest ∙ turn-stop ys (end_of ys) n k p h r (entry-had-none ys p r e))

    pub walk-on : (l : LinkFields) (i q : ℕ) (sets' : LinkSets) → entry_read ys p ≡ got_entry l i q → sets' ≡ with_marks sets k (marks_in l) → Walking (k + 1) q sets' (set places k p)
    walk-on l i q sets' e m =
        record {
          behind = omega arith;
          place = sym had.next ∙ ap (block_end ys) w.place ∙ sym (after_next k ys head_length);
          passed = links-sum k 1 ys (end_of ys) head_length ∙ go_on _ _ w.passed ∙ one;
          rest = ap (links_verdict (n - (k + 1)) ys (end_of ys)) (sym had.next) ∙ sym (turn_on ys (end_of ys) n k p h had.fine) ∙ w.rest;
          told = m ∙ sets-are ∙ ap sets_of (sym more);
          stored = rw more (stored-are ∙ ap filled_places (sym (places-more head_length (first k) link)));
        }
      where
        had : EntryHad ys p l q
        had = entry-had ys p l i q e

        link : Link
        link = link_in ys (after k ys head_length)

        more : first (k + 1) ≡ first k ++ link ∷ []
        more = rw add-one (links-next k ys head_length)

        count : length (first k) ≡ k
        count = length-links_at k ys head_length

        one : links_verdict 1 ys (end_of ys) (after k ys head_length) ≡ Fine
        one = fine-then _ _ (rw (← w.place) had.fine) refl

        marks : marks_in l ≡ link_marks link
        marks = ap marks_in (sym had.fields) ∙ sym (read-marks (p + 2) (beside_at ys p) (body_in ys p)) ∙ ap (λ q. link_marks (link_in ys q)) w.place

        sets-are : with_marks sets k (marks_in l) ≡ sets_of (first k ++ link ∷ [])
        sets-are = (λ x. with_marks (w.told x) (sym count x) (marks x)) ∙ sets_more (first k) link (omega (arith, count))

        size : length (entry_places head_length (first k)) ≡ k
        size = length-places head_length (first k) ∙ count

        at : p ≡ head_length + length (links_bytes (first k))
        at = w.place ∙ place_of k k ys (end_of ys) head_length b (omega arith) w.passed (omega arith) ∙ ap (λ r. head_length + length (links_bytes r)) (take_all k (first k) (omega (arith, count)))

        stored-are : set places k p ≡ filled_places (entry_places head_length (first k) ++ (head_length + length (links_bytes (first k))) ∷ [])
        stored-are =
            (λ x. set (w.stored x) (sym size x) (at x))
            ∙ filled_more (entry_places head_length (first k)) (head_length + length (links_bytes (first k))) (omega (arith, size))

  -- behind the last link

  module _ (k p : ℕ) (sets : LinkSets) (places : List ℕ) (w : Walking k p sets places) (h : n ≤ k) where
    all : k ≡ n
    all = omega (arith, w.behind)

    rows_left : payload_rows n ys ≡ tail_rows ys p
    unfolding payload_rows
    rows_left = go_on _ _ (rw all at w.passed) ∙ ap (tail_rows ys) (sym (rw all at w.place))

    pub walk-cut : (c : Result ℕ Refusal) (r : Refusal) → c ≡ counted (tail_rows ys p) (tail_count ys p) → c ≡ Err r → payload_rows n ys ≡ Err r
    walk-cut c r e f = rows_left ∙ counted-refused _ _ r (sym e ∙ f)

    pub walk-few : (c : Result ℕ Refusal) (m : ℕ) → c ≡ counted (tail_rows ys p) (tail_count ys p) → c ≡ Ok m → m ≤ length ys
    unfolding tail_count
    walk-few c m e f = omega (arith, (counted-number _ _ m (sym e ∙ f)).1, count-le (drop (p + 2) ys), length-drop (p + 2) ys)

    pub walk_ends : (c : Result ℕ Refusal) (m : ℕ) → c ≡ counted (tail_rows ys p) (tail_count ys p) → c ≡ Ok m
        → ◌≡◌ {A = Result RctIndex Refusal} (Ok (record { sets = sets; places = places; descriptors = m })) (built (payload_rows n ys) (payload_index n ys))
    unfolding built payload_index
    walk_ends c m e f =
        let g = counted-number _ _ m (sym e ∙ f) in
        rw (rows_left ∙ g.0)
        (λ i. Ok (record {
          sets = (w.told ∙ ap (λ j. sets_of (first j)) all) i;
          places = (w.stored ∙ ap (λ j. filled_places (entry_places head_length (first j))) all) i;
          descriptors = (sym g.1 ∙ ap (tail_count ys) (rw all at w.place)) i;
        }))

-- a refusal
pub refused-built : (v : Verdict) (i : RctIndex) (r : Refusal) → v ≡ Err r → Err r ≡ built v i
unfolding built
refused-built v i r f = rw f

-- ---- the loop, as the code checks it and counts its descriptors

module _ (ys : List ℕ) (p : ℕ) where
  pub tail-on : (c : Result ℕ Refusal) → loop_verdict ys (end_of ys) p ≡ Fine → c ≡ counted (cut_verdict (p + 2) (drop (p + 2) ys)) (length (descriptors_of (drop (p + 2) ys)))
      → c ≡ counted (tail_rows ys p) (tail_count ys p)
  unfolding tail_rows tail_count
  tail-on c v e = e ∙ ap (λ (u : Verdict). counted u (length (descriptors_of (drop (p + 2) ys)))) (sym (go_on _ _ v))

  pub tail-stops : (r : Refusal) → loop_verdict ys (end_of ys) p ≡ Err r → Err r ≡ counted (tail_rows ys p) (tail_count ys p)
  unfolding tail_rows
  tail-stops r v = refused-counted _ _ r (refused-then _ _ r v)
