-- What it is to be among the numbers of a class that has one number.
-- Assumes nothing.
use Prim.Native.Nat.{ℕ}
use mathlib.Core.Path.{◌≡◌, ap}
use native.Mathlib.Omega.{arith}
use Rattle.link_names.specs.Numbers.{only, Among}

pub only-among : {A : Type 0} (f : ℕ → A) (n m : ℕ) → Among n (only m) → f n ≡ f m
only-among f n m h = let e : n ≡ m = omega (arith, h) in ap f e
