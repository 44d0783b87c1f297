-- Runs of stores: a byte, a run after a run, a run copied byte by byte and as one; what a run leaves before and behind it; and each
-- byte then.
-- Assumes nothing.
use Prim.Native.Nat.{ℕ, suc, ◌+◌, ◌-◌, ◌≤◌, ◌<◌}
use mathlib.Core.Path.{◌≡◌, refl, sym, ap, ◌∙◌}
use mathlib.Core.List.{List, [], ◌∷◌, ◌++◌, append_assoc}
use native.Mathlib.Omega.{arith}
use native.Mathlib.Numerals.{add-one}
use native.Mathlib.Nat.{add-zero, add-suc, suc-add}
use lib.ListN.{length, take, drop, get_or, set, length-append}
use lib.Seq.{sets, length-sets, sets-eq, take-suc, take-take, take-append-le, take_at, drop_at, drop-drop, get_or-take, get_or-drop, length-take-le}
use borrow.Author.Tests.{le-leb}
use borrow.Rule.Slice.PartMut.{put_mid}
use Rattle.byte_stores.specs.Stores.{put_at, Wrote}
use Rattle.wire.proofs.Lists.{drop_past}

pub sets-append : (xs vs ws : List ℕ) (i : ℕ) → sets (sets xs i vs) (i + length vs) ws ≡ sets xs i (vs ++ ws)
sets-append xs [] ws i = rw add-zero
sets-append xs (v ∷ vs) ws i = rw (add-suc, ← suc-add) (sets-append (set xs i v) vs ws (suc i))

-- one more element of a run is copied
pub copied_more : (xs vs : List ℕ) (at i : ℕ) → i < length vs → set (sets xs at (take i vs)) (at + i) (get_or vs i 0) ≡ sets xs at (take (i + 1) vs)
copied_more xs vs at i h =
    let e : length (take i vs) ≡ i = length-take-le i vs (omega arith) in
    ap (λ k. set (sets xs at (take i vs)) (at + k) (get_or vs i 0)) (sym e)
    ∙ sets-append xs (take i vs) (get_or vs i 0 ∷ []) at
    ∙ ap (sets xs at) (sym (take-suc vs i 0 h) ∙ ap (λ k. take k vs) (sym (add-one i)))

-- a part that became the run
pub part_put : (xs vs ys : List ℕ) (at k : ℕ) → ys ≡ vs → k ≡ length vs → at + length vs ≤ length xs → put_mid at k xs ys ≡ sets xs at vs
part_put xs vs ys at k e n h =
    ap (put_mid at k xs) e ∙ ap (λ j. put_mid at j xs vs) n
    ∙ rw (sets-eq vs xs at h, append_assoc) (ap (λ zs. take at xs ++ (vs ++ zs)) (drop-drop (length vs) at xs))

pub run_put : (xs vs ys : List ℕ) (at k : ℕ) → ys ≡ vs → k ≡ length vs → at + length vs ≤ length xs → put_mid at k xs ys ≡ put_at xs at vs
run_put xs vs ys at k e n h = simp (le-leb _ _ h) (part_put xs vs ys at k e n h)

pub wrote0 : (xs : List ℕ) (at : ℕ) → Wrote xs at [] xs at
wrote0 xs at = record { bytes = refl; place = omega arith }

pub wrote1 : (xs : List ℕ) (at a : ℕ) → Wrote xs at (a ∷ []) (set xs at a) (at + 1)
wrote1 xs at a = record { bytes = refl; place = omega arith }

pub wrote2 : (xs : List ℕ) (at a b : ℕ) → Wrote xs at (a ∷ b ∷ []) (set (set xs at a) (at + 1) b) (at + 2)
wrote2 xs at a b = record { bytes = rw add-one; place = omega arith }

pub then : {xs vs ys ws zs : List ℕ} {at p q : ℕ} → Wrote xs at vs ys p → Wrote ys p ws zs q → Wrote xs at (vs ++ ws) zs q
then {xs} {vs} {ys} {ws} {zs} {at} f g = record {
  bytes = g.bytes ∙ rw (f.bytes, f.place) (sets-append xs vs ws at);
  place = omega (arith, length-append vs ws);
}

pub wrote-length : {xs vs ys : List ℕ} {at p : ℕ} → Wrote xs at vs ys p → length ys ≡ length xs
wrote-length {xs} {vs} {ys} {at} f = ap length f.bytes ∙ length-sets xs at vs

-- a run that is put where there is room for it
pub copied : (xs ys vs : List ℕ) (at n : ℕ) → ys ≡ put_at xs at vs → length vs ≡ n → at + n ≤ length xs → Wrote xs at vs ys (at + n)
copied xs ys vs at n e l h =
    let r : at + length vs ≤ length xs = omega arith in
    record { bytes = e ∙ simp (le-leb _ _ r); place = omega arith }

-- ---- a run that has room leaves what lies before it and behind it

module _ (xs : List ℕ) (at : ℕ) (vs : List ℕ) (h : at + length vs ≤ length xs) where
  front : length (take at xs) ≡ at
  front = length-take-le at xs (omega arith)

  pub sets-before : (n : ℕ) → n ≤ at → take n (sets xs at vs) ≡ take n xs
  sets-before n l = rw (sets-eq vs xs at h, append_assoc) (take-append-le n (take at xs) (vs ++ drop (at + length vs) xs) (omega (arith, front)) ∙ take-take n at xs l)

  pub sets-from : drop at (sets xs at vs) ≡ vs ++ drop (at + length vs) xs
  sets-from = rw (sets-eq vs xs at h, append_assoc) (drop_at (take at xs) (vs ++ drop (at + length vs) xs) at front)

  pub sets-take : take (at + length vs) (sets xs at vs) ≡ take at xs ++ vs
  sets-take = rw (sets-eq vs xs at h) (take_at (take at xs ++ vs) (drop (at + length vs) xs) (at + length vs) (rw (length-append, front)))

  pub sets_behind : (n : ℕ) → at + length vs ≤ n → drop n (sets xs at vs) ≡ drop n xs
  sets_behind n l =
      let k : ℕ = n - (at + length vs) in
      let sum : at + length vs + k ≡ n = omega arith in
      let past : drop (at + length vs) (sets xs at vs) ≡ drop (at + length vs) xs = drop_past (sets xs at vs) at (length vs) vs (drop (at + length vs) xs) sets-from refl in
      ap (λ j. drop j (sets xs at vs)) (sym sum) ∙ sym (drop-drop k (at + length vs) (sets xs at vs))
      ∙ ap (λ r. drop k r) past ∙ drop-drop k (at + length vs) xs ∙ ap (λ j. drop j xs) sum

  -- byte by byte: the run's where it was put, elsewhere what stood there
  pub byte_put : (i : ℕ) → i < length vs → get_or (sets xs at vs) (at + i) 0 ≡ get_or vs i 0
  byte_put i k =
      sym (get_or-drop at (sets xs at vs) i 0) ∙ ap (λ ys. get_or ys i 0) sets-from ∙ sym (get_or-take (length vs) (vs ++ drop (at + length vs) xs) i 0 k)
      ∙ ap (λ ys. get_or ys i 0) (take_at vs (drop (at + length vs) xs) (length vs) refl)

  pub byte-before : (i : ℕ) → i < at → get_or (sets xs at vs) i 0 ≡ get_or xs i 0
  byte-before i k = sym (get_or-take at (sets xs at vs) i 0 k) ∙ ap (λ ys. get_or ys i 0) (sets-before at (omega arith)) ∙ get_or-take at xs i 0 k

  pub byte-behind : (n i : ℕ) → at + length vs ≤ n → get_or (sets xs at vs) (n + i) 0 ≡ get_or xs (n + i) 0
  byte-behind n i l = sym (get_or-drop n (sets xs at vs) i 0) ∙ ap (λ ys. get_or ys i 0) (sets_behind n l) ∙ get_or-drop n xs i 0
