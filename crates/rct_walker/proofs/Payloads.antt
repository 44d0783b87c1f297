-- What is walked over of a section's payload, cut off at its end, is what is walked over of the section, refused or not.
-- Assumes nothing.
use mathlib.Core.Path.{◌≡◌, refl, sym, ap, ◌∙◌}
use Prim.Native.Nat.{ℕ, ◌+◌, ◌-◌, ◌≤◌, min}
use native.Mathlib.Omega.{arith}
use mathlib.Core.List.{List}
use lib.ListN.{take}
use lib.Seq.{get_or-take}
use Rattle.wire.proofs.Verdicts.{then-fine, go_on, refused-then}
use Rattle.frame.specs.Reading.{payload_end}
use Rattle.frame.specs.declared.Demands.{Demands}
use Rattle.frame.proofs.Opening.{OpenedAt}
use Rattle.frame.proofs.Readings.{reading-rows}
use Rattle.rct.specs.Syntax.{link_count_place, head_length, rct}
use Rattle.rct.specs.Reading.{after, count_at, link_place, loop_place, links_verdict, loop_verdict, payload_verdict, reading}
use Rattle.rct.proofs.Links.{links-sum}
use Rattle.rct.proofs.Payload.{loop-same, links-same, links-alike}
use Rattle.rct_blocks.specs.Ends.{end_of}
use Rattle.rct_blocks.proofs.Ends.{end-cut}
use Rattle.rct_walker.specs.Places.{link_span, places_at, walked}
use Rattle.rct_walker.specs.Stages.{rest_verdict, places_in}
use Rattle.rct_walker.specs.declared.RctPlaces.{RctPlaces}
use Rattle.std.specs.Prelude.{Err, Ok}
use Rattle.wire.specs.Verdict.{Fine, Verdict}

-- ---- cut off at e, from p on

module _ (n : ℕ) (xs : List ℕ) (e p : ℕ) where
  rest-same : rest_verdict n (take e xs) e p ≡ rest_verdict n xs e p
  unfolding rest_verdict
  rest-same = by (links_verdict n xs e p) refl
    where
      by : (v : Verdict) → links_verdict n xs e p ≡ v → rest_verdict n (take e xs) e p ≡ rest_verdict n xs e p
      by (Ok _) f =
          go_on _ _ (links-same n xs e p ∙ f) ∙ ap (loop_verdict (take e xs) e) (links-alike n xs e p f).place ∙ loop-same xs e (after n xs p)
          ∙ sym (go_on _ _ f)
      by (Err r) f = refused-then _ _ r (links-same n xs e p ∙ f) ∙ sym (refused-then _ _ r f)

  -- each of the places on the way
  place_same : links_verdict n xs e p ≡ Fine → (k : ℕ) → k ≤ n → after k (take e xs) p ≡ after k xs p
  place_same v k h =
      let sum : k + (n - k) ≡ n = omega arith in
      (links-alike k xs e p (then-fine _ _ (sym (links-sum k (n - k) xs e p) ∙ ap (λ m. links_verdict m xs e p) sum ∙ v)).0).place

walked_same : (v w : Verdict) (k l : RctPlaces) → v ≡ w → (w ≡ Fine → k ≡ l) → walked v k ≡ walked w l
unfolding walked
walked_same v w k l e f = ap (λ u. walked u k) e ∙ by w refl
  where
    by : (u : Verdict) → w ≡ u → walked w k ≡ walked w l
    by (Ok _) g = ap (walked w) (f g)
    by (Err r) g = rw g

-- ---- the payload of a section that was opened

module _ (d : Demands) (xs : List ℕ) (t : ℕ) (o : OpenedAt rct d xs t) where
  abbrev e : ℕ
  e = payload_end xs

  abbrev ys : List ℕ
  ys = take e xs

  end : end_of ys ≡ e
  end = end-cut xs e (omega (arith, o.total, o.within)) (omega (arith, o.total, o.short))

  pub room : head_length ≤ end_of ys
  room = omega (arith, end, o.total, o.large)

  count : count_at ys ≡ count_at xs
  count = get_or-take e xs link_count_place 0 (omega (arith, o.total, o.large))

  pub rest-is : rest_verdict (count_at xs) ys (end_of ys) head_length ≡ reading d xs
  unfolding payload_verdict rest_verdict
  rest-is = rw end (rest-same (count_at xs) xs e head_length) ∙ reading-rows rct payload_verdict d xs o.fine

  -- of an accepted section
  module _ (v : reading d xs ≡ Fine) where
    links_fine : links_verdict (count_at xs) xs e head_length ≡ Fine
    unfolding payload_verdict
    links_fine = (then-fine (links_verdict (count_at xs) xs e head_length) _ (reading-rows rct payload_verdict d xs o.fine ∙ v)).0

    stands : (k : ℕ) → k ≤ count_at xs → link_place ys k ≡ link_place xs k
    stands = place_same (count_at xs) xs e head_length links_fine

    pub loop-stands : after (count_at xs) ys head_length ≡ loop_place xs
    loop-stands = stands (count_at xs) (omega arith)

    span_same : (k : ℕ) → link_span ys k ≡ link_span xs k
    span_same k = rw (count, stands (min k (count_at xs)) (omega arith), stands (min (k + 1) (count_at xs)) (omega arith))

    places_same : (k : ℕ) → places_in t ys k ≡ places_at xs k
    places_same k = λ i. record { total = sym o.total i; link = span_same k i; count = count i; loop_at = (ap (link_place ys) count ∙ loop-stands) i }

  pub walked-is : (k : ℕ) → walked (rest_verdict (count_at ys) ys (end_of ys) head_length) (places_in t ys k) ≡ walked (reading d xs) (places_at xs k)
  walked-is k = walked_same _ _ _ _ (ap (λ n. rest_verdict n ys (end_of ys) head_length) count ∙ rest-is) (λ v. places_same v k)
