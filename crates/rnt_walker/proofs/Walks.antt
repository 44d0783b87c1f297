-- What the stages of the walk answer, case by case, over plain lists: the code's returns cite these.
-- Assumes nothing.
use mathlib.Core.Path.{◌≡◌, refl, sym, ap, ◌∙◌}
use Prim.Native.Nat.{ℕ, suc, ◌+◌, ◌-◌, ◌≤◌, ◌<◌}
use native.Mathlib.Omega.{arith}
use mathlib.Core.Bool.{Bool, true, false}
use mathlib.Core.List.{List, [], ◌∷◌, map}
use lib.Dec.{eqb, ltb}
use lib.ListN.{length, get_or}
use borrow.Author.Tests.{eqb-true, eqb-false, ltb-true, ltb-false}
use Rattle.wire.specs.Choice.{pick}
use Rattle.wire.specs.declared.verdict.Refusal.{Refusal}
use Rattle.wire.proofs.Verdicts.{go_on, refused-then, ok-same}
use Rattle.length_field.specs.Lengths.{length_at, block_end, long_row}
use Rattle.wire.specs.Refusals.{common_too_long}
use Rattle.wire.specs.Runs.{places_to, each_row}
use Rattle.wire.proofs.RunLaws.{places-none, places-more, run_on, run-stop, run-count}
use Rattle.frame.specs.Reading.{payload_end}
use Rattle.rnt.specs.Syntax.{common_place}
use Rattle.rnt.specs.Reading.{info_place, named_end, provider_head, provider_verdict, common_row, payload_verdict}
use Rattle.rnt_walker.specs.Places.{walked}
use Rattle.rnt_walker.specs.Stages.{counted, passed, authorities_verdict, providers_verdict, counted_at, passed_at}
use Rattle.rnt_walker.specs.declared.RntPlaces.{RntPlaces}
use Rattle.std.specs.Prelude.{Err, Ok}
use Rattle.wire.specs.Verdict.{Fine, Verdict}

-- ---- answers, made and taken apart

pub record CountKnown (v : Verdict) (ps : List ℕ) (k a b : ℕ) : Type 0 where
  pub fine : v ≡ Fine
  pub number : length ps ≡ a
  pub place : get_or ps k 0 ≡ b

pub counted-at : (v : Verdict) (ps : List ℕ) (k a b : ℕ) → counted v ps k ≡ counted_at a b → CountKnown v ps k a b
unfolding counted
counted-at (Ok _) ps k a b e = let same = ok-same _ _ e in record { fine = refl; number = ap (λ p. p.count) same; place = ap (λ p. p.place) same }
counted-at (Err r) ps k a b e = let z : ◌≡◌ {A = ℕ} 0 1 = cc in absurd (omega arith)

pub counted-refused : (v : Verdict) (ps : List ℕ) (k : ℕ) (r : Refusal) → counted v ps k ≡ Err r → v ≡ Err r
unfolding counted
counted-refused (Ok _) ps k r e = let z : ◌≡◌ {A = ℕ} 0 1 = cc in absurd (omega arith)
counted-refused (Err r') ps k r e = cc

pub at-counted : (v : Verdict) (ps : List ℕ) (k a b : ℕ) → CountKnown v ps k a b → counted_at a b ≡ counted v ps k
unfolding counted
at-counted v ps k a b c = rw (c.fine, c.number, c.place)

pub refused-counted : (v : Verdict) (ps : List ℕ) (k : ℕ) (r : Refusal) → v ≡ Err r → Err r ≡ counted v ps k
unfolding counted
refused-counted v ps k r e = rw e

pub passed-at : (v : Verdict) (q : ℕ) (ps : List ℕ) (k a b c : ℕ) → passed v q ps k ≡ passed_at a b c → (q ≡ a) × CountKnown v ps k b c
unfolding passed
passed-at (Ok _) q ps k a b c e = let same = ok-same _ _ e in (ap (λ p. p.end) same, record { fine = refl; number = ap (λ p. p.count) same; place = ap (λ p. p.place) same })
passed-at (Err r) q ps k a b c e = let z : ◌≡◌ {A = ℕ} 0 1 = cc in absurd (omega arith)

pub passed-refused : (v : Verdict) (q : ℕ) (ps : List ℕ) (k : ℕ) (r : Refusal) → passed v q ps k ≡ Err r → v ≡ Err r
unfolding passed
passed-refused (Ok _) q ps k r e = let z : ◌≡◌ {A = ℕ} 0 1 = cc in absurd (omega arith)
passed-refused (Err r') q ps k r e = cc

pub at-passed : (v : Verdict) (q : ℕ) (ps : List ℕ) (k a b c : ℕ) → q ≡ a → CountKnown v ps k b c → passed_at a b c ≡ passed v q ps k
unfolding passed
at-passed v q ps k a b c f d = rw (f, d.fine, d.number, d.place)

pub refused-passed : (v : Verdict) (q : ℕ) (ps : List ℕ) (k : ℕ) (r : Refusal) → v ≡ Err r → Err r ≡ passed v q ps k
unfolding passed
refused-passed v q ps k r e = rw e

pub walked-read : (v : Verdict) (k l : RntPlaces) → walked v k ≡ Ok l → (v ≡ Fine) × (k ≡ l)
unfolding walked
walked-read (Ok _) k l e = (refl, cc)
walked-read (Err r) k l e = let z : ◌≡◌ {A = ℕ} 0 1 = cc in absurd (omega arith)

pub walked-refused : (v : Verdict) (k : RntPlaces) (r : Refusal) → walked v k ≡ Err r → v ≡ Err r
unfolding walked
walked-refused (Ok _) k r e = let z : ◌≡◌ {A = ℕ} 0 1 = cc in absurd (omega arith)
walked-refused (Err r') k r e = cc

pub read-walked : (v : Verdict) (k l : RntPlaces) → v ≡ Fine → k ≡ l → Ok l ≡ walked v k
unfolding walked
read-walked v k l e f = rw (e, f)

pub refused-walked : (v : Verdict) (k : RntPlaces) (r : Refusal) → v ≡ Err r → Err r ≡ walked v k
unfolding walked
refused-walked v k r e = rw e

-- ---- what stands at number k of a list, looked for on the way: i of the list are behind, rs are to come, f is what was found

pub record Sought (ps : List ℕ) (k i f : ℕ) (rs : List ℕ) : Type 0 where
  pub behind : k < i → f ≡ get_or ps k 0
  pub ahead : i ≤ k → (f ≡ 0) × (get_or ps k 0 ≡ get_or rs (k - i) 0)

pub sought-start : (ps : List ℕ) (k : ℕ) → Sought ps k 0 0 ps
sought-start ps k = record { behind = λ h. absurd (omega arith); ahead = λ h. (refl, let z : k - 0 ≡ k = omega arith in rw z) }

-- one more: it is the one, or it is not
pub sought-more : (ps : List ℕ) (k i f r : ℕ) (rs : List ℕ) → Sought ps k i f (r ∷ rs) → Sought ps k (i + 1) (pick (eqb i k) r f) rs
sought-more ps k i f r rs s = by (eqb i k) refl
  where
    by : (b : Bool) → eqb i k ≡ b → Sought ps k (i + 1) (pick b r f) rs
    by true t =
        let is : i ≡ k = eqb-true i k t in
        let z : k - i ≡ 0 = omega arith in
        record { behind = λ h. sym (rw z at (s.ahead (omega arith)).1); ahead = λ h. absurd (omega arith) }
    by false t =
        let no : i ≡ k → ⊥ = eqb-false i k t in
        record {
          behind = λ h. s.behind (omega (arith, no));
          ahead = λ h.
              let a = s.ahead (omega arith) in
              let z : k - i ≡ suc (k - (i + 1)) = omega arith in
              (a.0, rw z at a.1);
        }

-- at the end
pub sought-end : (ps : List ℕ) (k i f : ℕ) → Sought ps k i f [] → get_or ps k 0 ≡ f
sought-end ps k i f s = by (ltb k i) refl
  where
    by : (b : Bool) → ltb k i ≡ b → get_or ps k 0 ≡ f
    by true t = sym (s.behind (ltb-true k i t))
    by false t = let a = s.ahead (ltb-false k i t) in a.1 ∙ sym a.0

-- ---- a walk over things up to e, the first of which stands at a: i of them are behind it, and it stands at p

module _ (next : ℕ → ℕ) (up : (q : ℕ) → q < next q) (row : ℕ → Verdict) (e a : ℕ) where
  pub record Walking (p i : ℕ) : Type 0 where
    pub within : p ≤ e
    pub few : i ≤ p
    pub rows : each_row row (places_to next e p) ≡ each_row row (places_to next e a)
    pub number : i + length (places_to next e p) ≡ length (places_to next e a)

  pub walk_start : a ≤ e → Walking a 0
  walk_start h = record { within = h; few = omega arith; rows = refl; number = omega arith }

  pub walk-on : (p i q : ℕ) → Walking p i → p < e → row p ≡ Fine → next p ≡ q → q ≤ e → Walking q (i + 1)
  walk-on p i q w h v is l =
      let u : p < next p = up p in
      record {
        within = l;
        few = omega (arith, w.few);
        rows = rw (← is) (sym (run_on next up row e p h v) ∙ w.rows);
        number = rw (← is) (omega (arith, run-count next up row e p h, w.number));
      }

  pub walk-stop : (p i : ℕ) (r : Refusal) → Walking p i → p < e → row p ≡ Err r → each_row row (places_to next e a) ≡ Err r
  walk-stop p i r w h v = sym w.rows ∙ run-stop next up row e p h r v

  pub walk_fine : (p i : ℕ) → Walking p i → e ≤ p → each_row row (places_to next e a) ≡ Fine
  walk_fine p i w h = sym w.rows ∙ ap (λ ps. each_row row ps) (places-none next up e p h)

  pub walk-number : (p i : ℕ) → Walking p i → e ≤ p → length (places_to next e a) ≡ i
  walk-number p i w h = omega (arith, w.number, ap length (places-none next up e p h))

-- what is looked for among their places
module _ (next : ℕ → ℕ) (up : (q : ℕ) → q < next q) (e a : ℕ) where
  pub place-on : (k p i q f : ℕ) → Sought (places_to next e a) k i f (places_to next e p) → p < e → next p ≡ q
      → Sought (places_to next e a) k (i + 1) (pick (eqb i k) p f) (places_to next e q)
  place-on k p i q f s h is = rw (← is) (sought-more _ k i f p _ (rw (places-more next up e p h) at s))

  pub place_end : (k p i f : ℕ) → Sought (places_to next e a) k i f (places_to next e p) → e ≤ p → get_or (places_to next e a) k 0 ≡ f
  place_end k p i f s h = sought-end _ k i f (rw (places-none next up e p h) at s)

  -- and among what g tells of each
  module _ (g : ℕ → ℕ) where
    pub told-on : (k p i q f r : ℕ) → Sought (map g (places_to next e a)) k i f (map g (places_to next e p)) → p < e → next p ≡ q → g p ≡ r
        → Sought (map g (places_to next e a)) k (i + 1) (pick (eqb i k) r f) (map g (places_to next e q))
    told-on k p i q f r s h is t = rw (← is, ← t) (sought-more _ k i f (g p) _ (rw (places-more next up e p h) at s))

    pub told-end : (k p i f : ℕ) → Sought (map g (places_to next e a)) k i f (map g (places_to next e p)) → e ≤ p → get_or (map g (places_to next e a)) k 0 ≡ f
    told-end k p i f s h = sought-end _ k i f (rw (places-none next up e p h) at s)

-- ---- one provider

module _ (xs : List ℕ) (e p : ℕ) where
  pub provider-stop : (r : Refusal) → provider_head xs e p ≡ Err r → provider_verdict xs e p ≡ Err r
  unfolding provider_verdict
  provider-stop r v = refused-then _ _ r v

  -- behind its head the verdict is that on its authorities
  pub provider-on : (q a : ℕ) → provider_head xs e p ≡ Fine → named_end xs (info_place p) ≡ a → block_end xs p ≡ q → provider_verdict xs e p ≡ authorities_verdict xs q a
  unfolding provider_verdict
  provider-on q a v f g = go_on _ _ v ∙ rw (f, g)

-- ---- the common descriptors, then the providers

module _ (xs : List ℕ) where
  pub payload-stop : (r : Refusal) → common_row xs ≡ Err r → payload_verdict xs ≡ Err r
  unfolding payload_verdict
  payload-stop r v = refused-then _ _ r v

  pub payload-on : common_row xs ≡ Fine → payload_verdict xs ≡ providers_verdict xs
  unfolding payload_verdict
  payload-on v = go_on _ _ v

  -- the row as the code has it, by the length that it read and the bytes that it counted
  pub common-said : (v : Verdict) (n m : ℕ) → v ≡ long_row common_too_long n m → n ≡ length_at xs common_place → m ≡ payload_end xs - (common_place + 2) → v ≡ common_row xs
  unfolding common_row
  common-said v n m is f g = is ∙ rw (f, g)
