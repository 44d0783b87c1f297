-- The fixed list in numbers, so that a name cannot come to stand for another number, be it in code and definitions alike: a number that was
-- given up would be on the list again.
-- Assumes nothing.
use Prim.Native.Nat.{ℕ, zero, suc}
use mathlib.Core.Path.{◌≡◌, refl}
use mathlib.Core.List.{List, [], ◌∷◌, ◌++◌}
use Rattle.refusals.specs.FixedList.{fixed_list}

-- so many numbers from n on
abbrev pub from : ℕ → ℕ → List ℕ
from n zero = []
from n (suc many) = n ∷ from (suc n) many

pub in-numbers : fixed_list ≡ from 1 25 ++ (from 28 3 ++ from 38 9)
in-numbers = refl
