-- A set of the numbers 0 to 255 as the list of its 256 memberships, and as four words of 64 bits.
-- Assumes nothing.
use Rattle.std.specs.Prelude.{ℕ, zero, suc, ◌+◌, ◌*◌, ◌/◌, ◌%◌, ◌^◌, ◌≤◌, ◌<◌, Bool, true, false, List, [], ◌∷◌, ◌++◌, ◌≡◌, eqb, length, get_or, take, drop, replicate}
use Rattle.wire.specs.Choice.{bit}
use Rattle.number_set.specs.declared.NumberSet.{NumberSet}

-- the bits of a word, the words of a set, and how many numbers can be members: those below size
abbrev pub width : ℕ
width = 64

abbrev pub many : ℕ
many = 4

abbrev pub size : ℕ
size = 256

-- the lowest n bits of a word, the lowest first
unfoldable pub bits : ℕ → ℕ → List Bool
bits zero w = []
bits (suc n) w = eqb (w % 2) 1 ∷ bits n (w / 2)

-- the word of bits, the lowest first
unfoldable pub word : List Bool → ℕ
word [] = 0
word (b ∷ bs) = bit b + 2 * word bs

-- the bits of words, one word after the other
unfoldable pub flags : List ℕ → List Bool
flags [] = []
flags (w ∷ ws) = bits width w ++ flags ws

-- n words of a list, 64 entries each; what the list lacks is false
unfoldable pub words_of : ℕ → List Bool → List ℕ
words_of zero l = []
words_of (suc n) l = word (take width l) ∷ words_of n (drop width l)

-- for each number, from 0 on, whether it is a member
unfoldable pub members : NumberSet → List Bool
members s = flags s.words

-- whether k is one: none past the last is
abbrev pub is_member : NumberSet → ℕ → Bool
is_member s k = get_or (members s) k false

-- the set whose members a list tells; what the list lacks is no member
unfoldable pub of_members : List Bool → NumberSet
of_members l = record { words = words_of many l }

-- a list's first n entries; what it lacks is false
unfoldable pub padded : ℕ → List Bool → List Bool
padded zero l = []
padded (suc n) [] = false ∷ padded n []
padded (suc n) (b ∷ l) = b ∷ padded n l

-- no member at all
unfoldable pub no_members : List Bool
no_members = replicate size false

-- how many of a list are true
unfoldable pub trues : List Bool → ℕ
trues [] = 0
trues (b ∷ bs) = bit b + trues bs

-- what every value of the code's type has: four words of 64 bits
abbrev pub Words : List ℕ → Type 0
Words [] = Unit {0}
Words (w ∷ ws) = (w < 2 ^ width) × Words ws

pub record Fits (s : NumberSet) : Type 0 where
  pub four : length s.words ≡ many
  pub each : Words s.words

-- every member is below n
abbrev pub Below : ℕ → List Bool → Type 0
Below n l = (k : ℕ) → n ≤ k → get_or l k false ≡ false

-- every number below n is a member
abbrev pub Filled : ℕ → List Bool → Type 0
Filled n l = (k : ℕ) → k < n → get_or l k false ≡ true
