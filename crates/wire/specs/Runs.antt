-- Things that stand one behind the other from a place up to an end, as loops have them that no count and only an end bounds:
-- `next` tells the place behind the thing at a place.
-- Assumes nothing.
use Rattle.std.specs.Prelude.{ℕ, zero, suc, ◌-◌, List, [], ◌∷◌, ◌++◌, ltb}
use Rattle.wire.specs.Choice.{pick}
use Rattle.wire.specs.Verdict.{◌▷◌, Fine, Verdict}

-- the places of those from p up to e, n at most
abbrev pub places_in : ℕ → (ℕ → ℕ) → ℕ → ℕ → List ℕ
places_in zero next e p = []
places_in (suc n) next e p = pick (ltb p e) (p ∷ places_in n next e (next p)) []

-- of all: each has a byte or more, so there are no more of them than bytes
unfoldable pub places_to : (ℕ → ℕ) → ℕ → ℕ → List ℕ
places_to next e p = places_in (e - p) next e p

-- the verdict on them, one after the other
abbrev pub each_row : (ℕ → Verdict) → List ℕ → Verdict
each_row row [] = Fine
each_row row (p ∷ ps) = row p ▷ each_row row ps

-- the bytes of a list of records, one after the other; and that each of them fits
abbrev pub in_order : {A : Type 0} → (A → List ℕ) → List A → List ℕ
in_order write [] = []
in_order write (a ∷ rs) = write a ++ in_order write rs

abbrev pub AllFit : {A : Type 0} → (A → Type 0) → List A → Type 0
AllFit Fit [] = Unit {0}
AllFit Fit (a ∷ rs) = Fit a × AllFit Fit rs
