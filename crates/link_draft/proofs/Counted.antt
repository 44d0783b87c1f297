-- The counted elements of an array, one by one: what is left at i begins with the element there, and nothing is left
-- behind the last.
-- Assumes nothing.
use Prim.Native.Nat.{ℕ, min, ◌+◌, ◌≤◌, ◌<◌}
use mathlib.Core.Path.{◌≡◌}
use mathlib.Core.List.{List, [], ◌∷◌}
use native.Mathlib.Omega.{arith}
use native.Mathlib.Numerals.{add-one}
use lib.ListN.{length, take, drop, get_or, length-take, drop_of_length-le}
use lib.Seq.{drop-cons, get_or-take}

module _ {A : Type 0} (xs : List A) (count i : ℕ) where
  pub counted_next : (d : A) → i < min count (length xs) → drop i (take count xs) ≡ get_or xs i d ∷ drop (i + 1) (take count xs)
  counted_next d h =
      let l : i < length (take count xs) = rw (length-take count xs) h in
      let k : i < count = omega arith in
      rw (add-one, drop-cons (take count xs) i d l, get_or-take count xs i d k)

  pub counted_none : min count (length xs) ≤ i → drop i (take count xs) ≡ []
  counted_none h = drop_of_length-le (take count xs) {i = i} (rw (length-take count xs) h)
