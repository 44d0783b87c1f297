-- What the walk over a whole section answers, case by case, over plain lists.
-- Assumes nothing.
use Prim.Native.Nat.{ℕ}
use mathlib.Core.Path.{◌≡◌, refl, ap}
use mathlib.Core.List.{List}
use native.Mathlib.Omega.{arith}
use Rattle.wire.specs.declared.verdict.Refusal.{Refusal}
use Rattle.frame.specs.Reading.{total_of}
use Rattle.rct.specs.Reading.{count_at, loop_place}
use Rattle.rct_walker.specs.Places.{loop_found, found_loop}
use Rattle.std.specs.Prelude.{Err, Ok}
use Rattle.wire.specs.Verdict.{Fine, Verdict}
use Rattle.wire.proofs.Verdicts.{ok-same}

pub record LoopHad (v : Verdict) (xs : List ℕ) (t n p : ℕ) : Type 0 where
  pub fine : v ≡ Fine
  pub total : total_of xs ≡ t
  pub count : count_at xs ≡ n
  pub place : loop_place xs ≡ p

pub loop-had : (v : Verdict) (xs : List ℕ) (t n p : ℕ) → loop_found v xs ≡ found_loop t n p → LoopHad v xs t n p
unfolding loop_found
loop-had (Ok _) xs t n p e =
    let same = ok-same _ _ e in
    record { fine = refl; total = ap (λ f. f.total) same; count = ap (λ f. f.count) same; place = ap (λ f. f.loop_at) same }
loop-had (Err r) xs t n p e = let z : ◌≡◌ {A = ℕ} 0 1 = cc in absurd (omega arith)

pub loop-not : (v : Verdict) (xs : List ℕ) (r : Refusal) → loop_found v xs ≡ Err r → v ≡ Err r
unfolding loop_found
loop-not (Ok _) xs r e = let z : ◌≡◌ {A = ℕ} 0 1 = cc in absurd (omega arith)
loop-not (Err q) xs r e = cc

pub had-loop : (v : Verdict) (xs : List ℕ) (t n p : ℕ) → LoopHad v xs t n p → found_loop t n p ≡ loop_found v xs
unfolding loop_found
had-loop v xs t n p h = rw (h.fine, ← h.total, ← h.count, ← h.place)

pub not-loop : (v : Verdict) (xs : List ℕ) (r : Refusal) → v ≡ Err r → Err r ≡ loop_found v xs
unfolding loop_found
not-loop v xs r e = rw e
