-- The answer, made and taken apart.
-- Assumes nothing.
use mathlib.Core.Path.{◌≡◌, refl}
use Prim.Native.Nat.{ℕ}
use native.Mathlib.Omega.{arith}
use Rattle.wire.specs.declared.verdict.Refusal.{Refusal}
use Rattle.descriptors.specs.Reading.{counted}
use Rattle.std.specs.Prelude.{Err, Ok}
use Rattle.wire.specs.Verdict.{Fine, Verdict}

pub counted-number : (v : Verdict) (n m : ℕ) → counted v n ≡ Ok m → (v ≡ Fine) × (n ≡ m)
unfolding counted
counted-number (Ok _) n m e = (refl, cc)
counted-number (Err r) n m e = let z : ◌≡◌ {A = ℕ} 0 1 = cc in absurd (omega arith)

pub counted-refused : (v : Verdict) (n : ℕ) (r : Refusal) → counted v n ≡ Err r → v ≡ Err r
unfolding counted
counted-refused (Ok _) n r e = let z : ◌≡◌ {A = ℕ} 0 1 = cc in absurd (omega arith)
counted-refused (Err r') n r e = cc

pub number-counted : (v : Verdict) (n m : ℕ) → v ≡ Fine → n ≡ m → Ok m ≡ counted v n
unfolding counted
number-counted v n m e f = rw (e, f)

pub refused-counted : (v : Verdict) (n : ℕ) (r : Refusal) → v ≡ Err r → Err r ≡ counted v n
unfolding counted
refused-counted v n r e = rw e
