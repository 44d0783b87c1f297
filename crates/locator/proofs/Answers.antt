-- A reading's answer, the answer to its size alone, its verdict, and the bytes that it needs: each settles the others.
-- Assumes nothing.
use Prim.Native.Nat.{ℕ, ◌+◌, ◌≤◌}
use mathlib.Core.Path.{◌≡◌, refl, sym, ap}
use mathlib.Core.Bool.{Bool, true, false}
use mathlib.Core.List.{List}
use native.Mathlib.Omega.{arith}
use lib.ListN.{length}
use Rattle.wire.specs.Choice.{pick}
use Rattle.wire.specs.Numbers.{be16}
use Rattle.wire.specs.Refusals.{locator_cut}
use Rattle.wire.specs.declared.verdict.Refusal.{Refusal}
use Rattle.wire.proofs.Verdicts.{then-fine, fine-then, passed-ltb, pass-ltb, ok-same}
use Rattle.locator.specs.Syntax.{head_length, times_length, triplet_length, inline_length}
use Rattle.locator.specs.Reading.{inline, service_end, locator_at, size_at, needs, locator_verdict, sized, locator_size, answer, read_locator, got_locator}
use Rattle.locator.specs.declared.DvbBinaryLocator.{DvbBinaryLocator}
use Rattle.std.specs.Prelude.{Err, Ok}
use Rattle.wire.specs.Verdict.{Fine, Verdict}

service-past-head : (h : ℕ) → head_length ≤ service_end h
service-past-head h = go (inline h)
  where
    go : (b : Bool) → head_length ≤ pick b (head_length + inline_length) (head_length + triplet_length)
    go true = omega arith
    go false = omega arith

pass : (xs : List ℕ) (n : ℕ) → n ≤ length xs → needs xs n ≡ Fine
pass xs n h = pass-ltb (length xs) n locator_cut n (length xs) h

-- fine exactly if the bytes that it takes are there
pub enough-fine : (xs : List ℕ) → size_at xs ≤ length xs → locator_verdict xs ≡ Fine
unfolding locator_verdict size_at
enough-fine xs h =
    let a : ℕ = service_end (be16 xs 0) in
    let past : head_length ≤ a = service-past-head (be16 xs 0) in
    fine-then _ _ (pass xs head_length (omega arith))
    (fine-then _ _ (pass xs a (omega arith)) (fine-then _ _ (pass xs (a + times_length) (omega arith)) (pass xs (size_at xs) h)))

pub fine-enough : (xs : List ℕ) → locator_verdict xs ≡ Fine → size_at xs ≤ length xs
unfolding locator_verdict
fine-enough xs e = passed-ltb (length xs) (size_at xs) locator_cut (size_at xs) (length xs) (then-fine _ _ (then-fine _ _ (then-fine _ _ e).1).1).1

-- the answer by the verdict
pub read-fine : (xs : List ℕ) → locator_verdict xs ≡ Fine → read_locator xs ≡ got_locator (locator_at xs) (size_at xs)
unfolding read_locator
read-fine xs e = rw e

pub read-refused : (xs : List ℕ) (r : Refusal) → locator_verdict xs ≡ Err r → read_locator xs ≡ Err r
unfolding read_locator
read-refused xs r e = rw e

-- of one locator and one number of bytes
pub got-same : (l m : DvbBinaryLocator) (n k : ℕ) → got_locator l n ≡ got_locator m k → (l ≡ m) × (n ≡ k)
got-same l m n k e =
    let same = ok-same (record { locator = l; used = n }) (record { locator = m; used = k }) e in
    (ap (λ g. g.locator) same, ap (λ g. g.used) same)

-- and the verdict by the answer
pub record Had (xs : List ℕ) (l : DvbBinaryLocator) (n : ℕ) : Type 0 where
  pub fine : locator_verdict xs ≡ Fine
  pub locator : l ≡ locator_at xs
  pub used : n ≡ size_at xs

pub got-had : (xs : List ℕ) (l : DvbBinaryLocator) (n : ℕ) → read_locator xs ≡ got_locator l n → Had xs l n
unfolding read_locator
got-had xs l n e = go (locator_verdict xs) refl e
  where
    go : (v : Verdict) → locator_verdict xs ≡ v → answer v (locator_at xs) (size_at xs) ≡ got_locator l n → Had xs l n
    go (Ok _) p q = let same = got-same (locator_at xs) l (size_at xs) n q in record { fine = p; locator = sym same.0; used = sym same.1 }
    go (Err r) p q = record { fine = (cc); locator = (cc); used = (cc) }

pub refused-verdict : (xs : List ℕ) (r : Refusal) → read_locator xs ≡ Err r → locator_verdict xs ≡ Err r
unfolding read_locator
refused-verdict xs r e = go (locator_verdict xs) e
  where
    go : (v : Verdict) → answer v (locator_at xs) (size_at xs) ≡ Err r → v ≡ Err r
    go (Ok _) q = cc
    go (Err s) q = cc

-- what is taken is there
pub used_le : (xs : List ℕ) (l : DvbBinaryLocator) (n : ℕ) → read_locator xs ≡ got_locator l n → n ≤ length xs
used_le xs l n e = let g = got-had xs l n e in rw g.used (fine-enough xs g.fine)

-- ---- the size alone: the same verdict, and the same number of bytes

pub record Sized (xs : List ℕ) (n : ℕ) : Type 0 where
  pub fine : locator_verdict xs ≡ Fine
  pub used : n ≡ size_at xs
  pub there : size_at xs ≤ length xs
  pub head : head_length ≤ length xs

fine-sized : (xs : List ℕ) → locator_verdict xs ≡ Fine → Sized xs (size_at xs)
unfolding size_at
fine-sized xs e = let there = fine-enough xs e in record { fine = e; used = refl; there = there; head = omega (arith, service-past-head (be16 xs 0)) }

pub size-had : (xs : List ℕ) (n : ℕ) → locator_size xs ≡ Ok n → Sized xs n
unfolding locator_size
size-had xs n e = go (locator_verdict xs) refl e
  where
    go : (v : Verdict) → locator_verdict xs ≡ v → sized v (size_at xs) ≡ Ok n → Sized xs n
    go (Ok _) p q = let same : n ≡ size_at xs = cc in rw same (fine-sized xs p)
    go (Err r) p q = let fine : locator_verdict xs ≡ Fine = cc in let same : n ≡ size_at xs = cc in rw same (fine-sized xs fine)

pub size-read : (xs : List ℕ) (n : ℕ) → locator_size xs ≡ Ok n → read_locator xs ≡ got_locator (locator_at xs) n
size-read xs n e = let s = size-had xs n e in rw s.used (read-fine xs s.fine)

pub size-refused : (xs : List ℕ) (r : Refusal) → locator_size xs ≡ Err r → read_locator xs ≡ Err r
unfolding locator_size read_locator
size-refused xs r e = go (locator_verdict xs) e
  where
    go : (v : Verdict) → sized v (size_at xs) ≡ Err r → answer v (locator_at xs) (size_at xs) ≡ Err r
    go (Ok _) q = cc
    go (Err s) q = cc

pub read-size : (xs : List ℕ) (l : DvbBinaryLocator) (n : ℕ) → read_locator xs ≡ got_locator l n → locator_size xs ≡ Ok n
unfolding locator_size
read-size xs l n e = let g = got-had xs l n e in rw (g.fine, g.used)

pub refused-size : (xs : List ℕ) (r : Refusal) → read_locator xs ≡ Err r → locator_size xs ≡ Err r
unfolding locator_size
refused-size xs r e = rw (refused-verdict xs r e)
