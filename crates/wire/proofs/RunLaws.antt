-- Laws of things that stand one behind the other up to an end: their places one by one, those that are read, written, are the
-- bytes that stand there, and those that were written are read.
-- Assumes nothing.
use mathlib.Core.Path.{◌≡◌, refl, sym, ap, ◌∙◌}
use Prim.Native.Nat.{ℕ, zero, suc, ◌+◌, ◌-◌, ◌≤◌, ◌<◌}
use native.Mathlib.Nat.{not-suc-le-zero, le_of_suc-le-suc}
use native.Mathlib.Omega.{arith}
use mathlib.Core.Bool.{Bool, true, false}
use mathlib.Core.List.{List, [], ◌∷◌, ◌++◌, map, append_assoc, append-nil}
use lib.Dec.{ltb}
use lib.ListN.{length, take, drop, get_or, length-append}
use borrow.Author.Tests.{lt-ltb, le-ltb, ltb-true, ltb-false}
use Rattle.wire.specs.Choice.{pick}
use Rattle.wire.specs.Lists.{Bytes}
use Rattle.wire.specs.Runs.{places_in, places_to, each_row, in_order, AllFit}
use Rattle.wire.specs.Verdict.{◌▷◌, Fine, Verdict}
use Rattle.wire.specs.declared.verdict.Refusal.{Refusal}
use Rattle.wire.proofs.Among.{Among, among-fine, among_then}
use Rattle.wire.proofs.Lists.{bytes-append, drop_past}
use Rattle.wire.proofs.Verdicts.{then-fine, fine-then, go_on, refused-then}
use Rattle.std.specs.Prelude.{Err}

-- ---- the places, one by one

module _ (next : ℕ → ℕ) (up : (q : ℕ) → q < next q) where
  none_in : (n e p : ℕ) → e ≤ p → places_in n next e p ≡ []
  none_in zero e p h = refl
  none_in (suc n) e p h = rw (le-ltb p e h)

  -- rs many rs there are bytes are enough
  enough : (n m e p : ℕ) → e - p ≤ n → e - p ≤ m → places_in n next e p ≡ places_in m next e p
  enough zero m e p h k = sym (none_in m e p (omega arith))
  enough (suc n) zero e p h k = none_in (suc n) e p (omega arith)
  enough (suc n) (suc m) e p h k = by (ltb p e) refl (λ f g. enough n m e (next p) f g)
    where
      by : (b : Bool) → ltb p e ≡ b → (e - next p ≤ n → e - next p ≤ m → places_in n next e (next p) ≡ places_in m next e (next p))
          → pick b (p ∷ places_in n next e (next p)) [] ≡ pick b (p ∷ places_in m next e (next p)) []
      by true t same =
          let l : p < e = ltb-true p e t in
          let u : p < next p = up p in
          ap (λ r. p ∷ r) (same (omega arith) (omega arith))
      by false t same = refl

  pub places-none : (e p : ℕ) → e ≤ p → places_to next e p ≡ []
  unfolding places_to
  places-none e p h = none_in (e - p) e p h

  pub places-more : (e p : ℕ) → p < e → places_to next e p ≡ p ∷ places_to next e (next p)
  unfolding places_to
  places-more e p h =
      let one : e - p ≡ suc (e - p - 1) = omega arith in
      let u : p < next p = up p in
      ap (λ n. places_in n next e p) one ∙ ap (λ b. pick b (p ∷ places_in (e - p - 1) next e (next p)) []) (lt-ltb p e h)
      ∙ ap (λ r. p ∷ r) (enough (e - p - 1) (e - next p) e (next p) (omega arith) (omega arith))

-- ---- which numbers their verdict can answer at all

pub each-listed : (ns : List ℕ) (row : ℕ → Verdict) → ((p : ℕ) → Among ns (row p)) → (ps : List ℕ) → Among ns (each_row row ps)
each-listed ns row h [] = among-fine ns
each-listed ns row h (p ∷ ps) = among_then ns _ _ (h p) (each-listed ns row h ps)

-- each of those that passed, by number, and what is told of each
pub each_at : (row : ℕ → Verdict) (ps : List ℕ) (k : ℕ) → each_row row ps ≡ Fine → k < length ps → row (get_or ps k 0) ≡ Fine
each_at row [] k v h = absurd (not-suc-le-zero h)
each_at row (p ∷ ps) zero v h = (then-fine (row p) _ v).0
each_at row (p ∷ ps) (suc k) v h = each_at row ps k (then-fine (row p) _ v).1 (le_of_suc-le-suc h)

pub told_at : {A : Type 0} (read : ℕ → A) (ps : List ℕ) (k : ℕ) (d : A) → k < length ps → get_or (map read ps) k d ≡ read (get_or ps k 0)
told_at read [] k d h = absurd (not-suc-le-zero h)
told_at read (p ∷ ps) zero d h = refl
told_at read (p ∷ ps) (suc k) d h = told_at read ps k d (le_of_suc-le-suc h)

-- ---- a list of records, written

pub order-bytes : {A : Type 0} (write : A → List ℕ) (Fit : A → Type 0) → ((a : A) → Fit a → Bytes (write a)) → (rs : List A) → AllFit Fit rs → Bytes (in_order write rs)
order-bytes write Fit law [] f = tt
order-bytes write Fit law (a ∷ rs) f = bytes-append (write a) (in_order write rs) (law a f.0) (order-bytes write Fit law rs f.1)

-- ---- read and written

module _ {A : Type 0} (xs : List ℕ) (e : ℕ) (next : ℕ → ℕ) (up : (q : ℕ) → q < next q) (row : ℕ → Verdict) (read : ℕ → A) (write : A → List ℕ) (Fit : A → Type 0) where
  -- the one at q, which passed, fits, and written it is what stands there
  pub record Rebuilds (q : ℕ) : Type 0 where
    pub within : next q ≤ e
    pub same : take q xs ++ write (read q) ≡ take (next q) xs
    pub fit : Fit (read q)

  pub record RunRebuilt (p : ℕ) : Type 0 where
    pub same : take p xs ++ in_order write (map read (places_to next e p)) ≡ take e xs
    pub fit : AllFit Fit (map read (places_to next e p))

  module _ (law : (q : ℕ) → row q ≡ Fine → Rebuilds q) where
    rebuilt-none : (p : ℕ) → p ≤ e → e ≤ p → RunRebuilt p
    rebuilt-none p h k =
        let is : p ≡ e = omega arith in
        let places = places-none next up e p k in
        record { same = rw places (append-nil (take p xs) ∙ ap (λ q. take q xs) is); fit = rw places tt }

    rebuilt-more : (p : ℕ) → p < e → row p ≡ Fine → RunRebuilt (next p) → RunRebuilt p
    rebuilt-more p h v w =
        let r = law p v in
        let places = places-more next up e p h in
        let rest = in_order write (map read (places_to next e (next p))) in
        record {
          same = rw places (sym (append_assoc (take p xs) (write (read p)) rest) ∙ ap (λ l. l ++ rest) r.same ∙ w.same);
          fit = rw places (r.fit, w.fit);
        }

    rebuilt-in : (n p : ℕ) → e - p ≤ n → p ≤ e → each_row row (places_to next e p) ≡ Fine → RunRebuilt p
    rebuilt-in zero p h k v = rebuilt-none p k (omega arith)
    rebuilt-in (suc n) p h k v = by (ltb p e) refl (λ f g w. rebuilt-in n (next p) f g w)
      where
        by : (b : Bool) → ltb p e ≡ b → (e - next p ≤ n → next p ≤ e → each_row row (places_to next e (next p)) ≡ Fine → RunRebuilt (next p)) → RunRebuilt p
        by true t on =
            let l : p < e = ltb-true p e t in
            let two = then-fine (row p) _ (sym (ap (λ ps. each_row row ps) (places-more next up e p l)) ∙ v) in
            let u : p < next p = up p in
            rebuilt-more p l two.0 (on (omega arith) (law p two.0).within two.1)
        by false t on = rebuilt-none p k (ltb-false p e t)

    pub run-rebuilt : (p : ℕ) → p ≤ e → each_row row (places_to next e p) ≡ Fine → RunRebuilt p
    run-rebuilt p h v = rebuilt-in (e - p) p (omega arith) h v

  -- what a that fits is written rs, at q, passes, and is read rs a
  pub record Back (q : ℕ) (a : A) : Type 0 where
    pub passed : row q ≡ Fine
    pub same : read q ≡ a
    pub place : next q ≡ q + length (write a)

  pub record RunBack (p : ℕ) (rs : List A) : Type 0 where
    pub passed : each_row row (places_to next e p) ≡ Fine
    pub same : map read (places_to next e p) ≡ rs

  module _ (law : (q : ℕ) (a : A) (post : List ℕ) → Fit a → drop q xs ≡ write a ++ post → q + length (write a) ≤ e → Back q a) where
    pub run-back : (rs : List A) (p : ℕ) (post : List ℕ) → AllFit Fit rs → drop p xs ≡ in_order write rs ++ post → p + length (in_order write rs) ≡ e → RunBack p rs
    run-back [] p post f d h =
        let places = places-none next up e p (omega arith) in
        record { passed = rw places refl; same = rw places refl }
    run-back (a ∷ rs) p post f d h =
        let split : drop p xs ≡ write a ++ (in_order write rs ++ post) = d ∙ append_assoc (write a) (in_order write rs) post in
        let n : length (write a ++ in_order write rs) ≡ length (write a) + length (in_order write rs) = length-append (write a) (in_order write rs) in
        let b = law p a (in_order write rs ++ post) f.0 split (omega arith) in
        let u : p < next p = up p in
        let places = places-more next up e p (omega (arith, b.place)) in
        let w = run-back rs (next p) post f.1 (ap (λ q. drop q xs) b.place ∙ drop_past xs p (length (write a)) (write a) (in_order write rs ++ post) split refl) (omega (arith, b.place)) in
        record { passed = rw places (fine-then _ _ b.passed w.passed); same = rw places (λ i. b.same i ∷ w.same i) }

-- ---- a walk: i of the things are behind it, and it stands at p

module _ (next : ℕ → ℕ) (up : (q : ℕ) → q < next q) (row : ℕ → Verdict) (e p : ℕ) (h : p < e) where
  -- past a thing that passed the verdict is that on the rest
  pub run_on : row p ≡ Fine → each_row row (places_to next e p) ≡ each_row row (places_to next e (next p))
  run_on v = ap (λ ps. each_row row ps) (places-more next up e p h) ∙ go_on _ _ v

  pub run-stop : (r : Refusal) → row p ≡ Err r → each_row row (places_to next e p) ≡ Err r
  run-stop r v = ap (λ ps. each_row row ps) (places-more next up e p h) ∙ refused-then _ _ r v

  -- their number, the place of the next, and those behind it
  pub run-count : length (places_to next e p) ≡ suc (length (places_to next e (next p)))
  run-count = ap length (places-more next up e p h)

  pub run-first : get_or (places_to next e p) 0 0 ≡ p
  run-first = ap (λ ps. get_or ps 0 0) (places-more next up e p h)

  pub run-later : (k : ℕ) → get_or (places_to next e p) (suc k) 0 ≡ get_or (places_to next e (next p)) k 0
  run-later k = ap (λ ps. get_or ps (suc k) 0) (places-more next up e p h)

-- ---- by number: each stands behind the one before it

module _ (next : ℕ → ℕ) (up : (q : ℕ) → q < next q) (e : ℕ) where
  -- a list of places as the walk has them, each behind the one before
  abbrev chained : ℕ → List ℕ → Type 0
  chained p [] = e ≤ p
  chained p (q ∷ qs) = (q ≡ p) × chained (next q) qs

  chain-in : (n p : ℕ) → e - p ≤ n → chained p (places_in n next e p)
  chain-in zero p h = omega arith
  chain-in (suc n) p h = by (ltb p e) refl (λ k. chain-in n (next p) k)
    where
      by : (b : Bool) → ltb p e ≡ b → (e - next p ≤ n → chained (next p) (places_in n next e (next p))) → chained p (pick b (p ∷ places_in n next e (next p)) [])
      by true t on =
          let l : p < e = ltb-true p e t in
          let u : p < next p = up p in
          (refl, on (omega arith))
      by false t on = ltb-false p e t

  chain_next : (p : ℕ) (qs : List ℕ) (k : ℕ) → chained p qs → suc k < length qs → get_or qs (suc k) 0 ≡ next (get_or qs k 0)
  chain_next p [] k c h = absurd (not-suc-le-zero h)
  chain_next p (q ∷ []) k c h = absurd (not-suc-le-zero (le_of_suc-le-suc h))
  chain_next p (q ∷ r ∷ qs) zero c h = c.1.0
  chain_next p (q ∷ r ∷ qs) (suc k) c h = chain_next (next q) (r ∷ qs) k c.1 (le_of_suc-le-suc h)

  chain-last : (p : ℕ) (qs : List ℕ) (k : ℕ) → chained p qs → suc k ≡ length qs → e ≤ next (get_or qs k 0)
  chain-last p [] k c h = absurd (omega arith)
  chain-last p (q ∷ []) zero c h = c.1
  chain-last p (q ∷ []) (suc k) c h = absurd (omega arith)
  chain-last p (q ∷ r ∷ qs) zero c h = absurd (omega arith)
  chain-last p (q ∷ r ∷ qs) (suc k) c h = chain-last (next q) (r ∷ qs) k c.1 (omega arith)

  module _ (p : ℕ) where
    pub place-first : 0 < length (places_to next e p) → get_or (places_to next e p) 0 0 ≡ p
    unfolding places_to
    place-first h = first (places_in (e - p) next e p) (chain-in (e - p) p (omega arith)) h
      where
        first : (qs : List ℕ) → chained p qs → 0 < length qs → get_or qs 0 0 ≡ p
        first [] c g = absurd (not-suc-le-zero g)
        first (q ∷ qs) c g = c.0

    pub place-next : (k : ℕ) → suc k < length (places_to next e p) → get_or (places_to next e p) (suc k) 0 ≡ next (get_or (places_to next e p) k 0)
    unfolding places_to
    place-next k h = chain_next p (places_in (e - p) next e p) k (chain-in (e - p) p (omega arith)) h

    pub place-last : (k : ℕ) → suc k ≡ length (places_to next e p) → e ≤ next (get_or (places_to next e p) k 0)
    unfolding places_to
    place-last k h = chain-last p (places_in (e - p) next e p) k (chain-in (e - p) p (omega arith)) h
