-- Where a number stands, in numbers: a row for the first bit and the last bit of a word and of the set.
-- Assumes nothing.
use mathlib.Core.Bool.{true}
use mathlib.Core.List.{[], ◌∷◌}
use mathlib.Core.Path.{◌≡◌, refl}
use lib.ListN.{set}
use Rattle.number_set.specs.Members.{word, words_of, of_members, no_members}

-- the empty set
pub row-none : of_members no_members ≡ record { words = 0 ∷ 0 ∷ 0 ∷ 0 ∷ [] }
unfolding word words_of of_members no_members
row-none = refl

-- the lowest bit of the first word
pub row-0 : of_members (set no_members 0 true) ≡ record { words = 1 ∷ 0 ∷ 0 ∷ 0 ∷ [] }
unfolding word words_of of_members no_members
row-0 = refl

-- its highest
pub row-63 : of_members (set no_members 63 true) ≡ record { words = 0x8000_0000_0000_0000 ∷ 0 ∷ 0 ∷ 0 ∷ [] }
unfolding word words_of of_members no_members
row-63 = refl

-- the lowest of the second
pub row-64 : of_members (set no_members 64 true) ≡ record { words = 0 ∷ 1 ∷ 0 ∷ 0 ∷ [] }
unfolding word words_of of_members no_members
row-64 = refl

-- the highest of the last
pub row-255 : of_members (set no_members 255 true) ≡ record { words = 0 ∷ 0 ∷ 0 ∷ 0x8000_0000_0000_0000 ∷ [] }
unfolding word words_of of_members no_members
row-255 = refl
