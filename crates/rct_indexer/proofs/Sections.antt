-- What is built of a section's payload is what is built of the section, refused or not.
-- Assumes nothing.
use Prim.Native.Nat.{ℕ, ◌+◌, ◌-◌, ◌≤◌}
use mathlib.Core.Path.{◌≡◌, refl, sym, ap, ◌∙◌}
use mathlib.Core.List.{List}
use native.Mathlib.Omega.{arith}
use lib.ListN.{length, take, drop}
use lib.Seq.{length-take-le}
use Rattle.wire.specs.Lists.{Bytes, part}
use Rattle.length_field.specs.Lengths.{length_at}
use Rattle.wire.specs.Refusals.{loop_cut, loop_too_long, section_slack}
use Rattle.wire.specs.Verdict.{◌▷◌, Fine, Verdict}
use Rattle.wire.specs.declared.verdict.Refusal.{Refusal}
use Rattle.length_field.proofs.Blocks.{last-passed}
use Rattle.wire.proofs.Verdicts.{then-fine, fine-then, go_on, refused-then}
use Rattle.descriptors.specs.Reading.{descriptors_of, cut_verdict}
use Rattle.frame.specs.Syntax.{longest_payload}
use Rattle.frame.specs.Reading.{payload_end, plain_demands, opened}
use Rattle.frame.proofs.Opening.{Opened, opened-fine}
use Rattle.frame.proofs.Readings.{reading-rows, reading-closed}
use Rattle.rct.specs.Syntax.{head_length, rct, entry_place}
use Rattle.rct.specs.Reading.{count_at, after, loop_place, links_verdict, loop_verdict, payload_verdict, plain, section_at}
use Rattle.rct.proofs.Accepted.{place_is}
use Rattle.rct.proofs.Checked.{count_is}
use Rattle.wire.proofs.Lists.{drop-take}
use Rattle.rct.proofs.Payload.{loop-same, links-same, links-alike}
use Rattle.rct_blocks.specs.Ends.{end_of}
use Rattle.rct_index.specs.Index.{sets_of, entry_places, filled_places, index_of}
use Rattle.rct_index.specs.Building.{descriptor_place, loop_rows, build_verdict, built, building}
use Rattle.rct_index.specs.declared.RctIndex.{RctIndex}
use Rattle.rct_indexer.specs.Stages.{tail_rows, tail_count, payload_rows, payload_index}
use Rattle.std.specs.Prelude.{Err, Ok}

built-same : (v w : Verdict) (i j : RctIndex) → v ≡ w → (w ≡ Fine → i ≡ j) → built v i ≡ built w j
unfolding built
built-same v w i j e f = ap (λ u. built u i) e ∙ by w refl
  where
    by : (u : Verdict) → w ≡ u → built w i ≡ built w j
    by (Ok _) g = ap (built w) (f g)
    by (Err r) g = rw g

-- a section that cannot be opened
pub closed : (xs : List ℕ) (r : Refusal) → opened rct plain_demands xs ≡ Err r → build_verdict xs ≡ Err r
unfolding build_verdict
closed xs r v = refused-then _ _ r (reading-closed rct payload_verdict plain_demands xs r v)

module _ (xs : List ℕ) (b : Bytes xs) (front : opened rct plain_demands xs ≡ Fine) where
  o : Opened rct plain_demands xs
  o = opened-fine rct plain_demands xs front

  abbrev e : ℕ
  e = payload_end xs

  abbrev n : ℕ
  n = count_at xs

  abbrev ys : List ℕ
  ys = take e xs

  size : length ys ≡ e
  size = length-take-le e xs (omega (arith, o.within))

  pub short : length ys ≤ longest_payload
  short = omega (arith, size, o.limited)

  end : end_of ys ≡ e
  end = omega (arith, size, short)

  plain-is : plain xs ≡ links_verdict n xs e head_length ▷ loop_verdict xs e (loop_place xs)
  unfolding payload_verdict
  plain-is = sym (reading-rows rct payload_verdict plain_demands xs front)

  -- of an accepted section: the loop's descriptors are what is left of the payload
  module _ (links : links_verdict n xs e head_length ≡ Fine) (loop : loop_verdict xs e (loop_place xs) ≡ Fine) where
    fine : plain xs ≡ Fine
    fine = plain-is ∙ fine-then _ _ links loop

    body_is : drop (loop_place xs + 2) ys ≡ (section_at xs).loop.body
    unfolding section_at
    body_is =
        let q = last-passed loop_cut loop_too_long section_slack xs e (loop_place xs) loop in
        let d : e - (loop_place xs + 2) ≡ length_at xs (loop_place xs) = omega (arith, q) in
        drop-take xs (loop_place xs + 2) e (omega (arith, q)) (omega (arith, o.within)) ∙ ap (part xs (loop_place xs + 2)) d

    place : descriptor_place (section_at xs) ≡ loop_place xs + 2
    place = ap (λ q. q + 2) (ap (entry_place (section_at xs)) (count_is xs) ∙ sym (place_is plain_demands xs b fine n (omega arith)))

    rows_end : cut_verdict (loop_place xs + 2) (drop (loop_place xs + 2) ys) ≡ loop_rows (section_at xs)
    unfolding loop_rows
    rows_end = λ i. cut_verdict (sym place i) (body_is i)

    index_is : payload_index n ys ≡ index_of (section_at xs)
    unfolding payload_index tail_count index_of section_at
    index_is =
        let a = links-alike n xs e head_length links in
        λ i. record {
          sets = sets_of (a.links i);
          places = filled_places (entry_places head_length (a.links i));
          descriptors = (ap (λ q. length (descriptors_of (drop (q + 2) ys))) a.place ∙ ap (λ r. length (descriptors_of r)) body_is) i;
        }

  -- behind links that passed
  tail-is : links_verdict n xs e head_length ≡ Fine → tail_rows ys (after n ys head_length) ≡ loop_verdict xs e (loop_place xs) ▷ loop_rows (section_at xs)
  unfolding tail_rows
  tail-is links =
      let a = links-alike n xs e head_length links in
      rw (a.place, end) (by (loop_verdict xs e (loop_place xs)) refl)
    where
      by : (v : Verdict) → loop_verdict xs e (loop_place xs) ≡ v
          → loop_verdict ys e (loop_place xs) ▷ cut_verdict (loop_place xs + 2) (drop (loop_place xs + 2) ys) ≡ loop_verdict xs e (loop_place xs) ▷ loop_rows (section_at xs)
      by (Ok _) f = go_on _ _ (loop-same xs e (loop_place xs) ∙ f) ∙ rows_end links f ∙ sym (go_on _ _ f)
      by (Err r) f = refused-then _ _ r (loop-same xs e (loop_place xs) ∙ f) ∙ sym (refused-then _ _ r f)

  rows_are : payload_rows n ys ≡ build_verdict xs
  unfolding payload_rows build_verdict
  rows_are = rw (end, links-same n xs e head_length, plain-is) (by (links_verdict n xs e head_length) refl)
    where
      by : (v : Verdict) → links_verdict n xs e head_length ≡ v
          → links_verdict n xs e head_length ▷ tail_rows ys (after n ys head_length) ≡ (links_verdict n xs e head_length ▷ loop_verdict xs e (loop_place xs)) ▷ loop_rows (section_at xs)
      by (Ok _) f = go_on _ _ f ∙ tail-is f ∙ sym (ap (λ u. u ▷ loop_rows (section_at xs)) (go_on _ (loop_verdict xs e (loop_place xs)) f))
      by (Err r) f = refused-then _ _ r f ∙ sym (refused-then _ _ r (refused-then _ _ r f))

  pub built-is : built (payload_rows n ys) (payload_index n ys) ≡ building xs
  unfolding building build_verdict
  built-is = built-same _ _ _ _ rows_are same
    where
      same : build_verdict xs ≡ Fine → payload_index n ys ≡ index_of (section_at xs)
      same v =
          let two = then-fine (links_verdict n xs e head_length) _ (sym plain-is ∙ (then-fine (plain xs) _ v).0) in
          index_is two.0 two.1
