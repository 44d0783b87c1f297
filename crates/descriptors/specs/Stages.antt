-- What the count's recursion answers of the bytes lent to it.
-- Assumes nothing.
use Rattle.std.specs.Prelude.{ℕ, zero, suc, ◌+◌, List, ltb, length, drop}
use Rattle.wire.specs.Choice.{pick}
use Rattle.descriptors.specs.Reading.{size_of}
use Rattle.descriptors.specs.declared.Front.{Front}

-- none is counted
abbrev pub stopped : List ℕ → Front
stopped xs = record { count = 0; left = length xs }

-- one more is counted than in the shorter loop
abbrev pub one_more : Front → Front
one_more f = record { count = f.count + 1; left = f.left }

-- the descriptors at the front up to the first that is cut off, n at most
unfoldable pub front_of : ℕ → List ℕ → Front
front_of zero xs = stopped xs
front_of (suc n) xs = pick (ltb (length xs) (size_of xs)) (stopped xs) (one_more (front_of n (drop (size_of xs) xs)))
