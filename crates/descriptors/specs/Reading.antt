-- A descriptor loop as it is read: the descriptors that bytes stand for, a total function of the bytes, and the verdict on the bytes, number 39 at the first descriptor that is cut off.
-- Assumes nothing.
use Rattle.std.specs.Prelude.{ℕ, zero, suc, ◌+◌, List, [], ◌∷◌, ltb, length, get_or, drop, Err, Ok, Result}
use Rattle.wire.specs.Lists.{part}
use Rattle.wire.specs.Refusals.{descriptor_cut}
use Rattle.wire.specs.Verdict.{refuse, ◌▷◌, Fine, Verdict}
use Rattle.descriptors.specs.Syntax.{head_length, Descriptor}
use Rattle.wire.specs.declared.verdict.Refusal.{Refusal}

-- ---- the descriptor at the front

-- the bytes that it takes
abbrev pub size_of : List ℕ → ℕ
size_of xs = head_length + get_or xs 1 0

abbrev pub descriptor_of : List ℕ → Descriptor
descriptor_of xs = record { tag = get_or xs 0 0; body = part xs head_length (get_or xs 1 0) }

-- ---- a loop is empty, or one descriptor and a shorter loop

-- what is told of n descriptors at most: `none` of the empty loop, and of another what `one` makes of its bytes and of what is told of the shorter loop
abbrev pub told_in : {A : Type 0} → A → (List ℕ → A → A) → ℕ → List ℕ → A
told_in none one zero xs = none
told_in none one (suc n) [] = none
told_in none one (suc n) (x ∷ xs) = one (x ∷ xs) (told_in none one n (drop (size_of (x ∷ xs)) (x ∷ xs)))

-- of all: each has a byte or more, so there are no more of them than bytes
unfoldable pub told : {A : Type 0} → A → (List ℕ → A → A) → List ℕ → A
told none one xs = told_in none one (length xs) xs

-- the descriptors
abbrev pub with_first : List ℕ → List Descriptor → List Descriptor
with_first xs ds = descriptor_of xs ∷ ds

unfoldable pub descriptors_of : List ℕ → List Descriptor
descriptors_of xs = told [] with_first xs

-- ---- the verdict, of a loop whose first byte stands at p

-- 39: fewer bytes are left than the descriptor takes; its place, and the bytes left from there on
abbrev pub cut_row : ℕ → List ℕ → Verdict
cut_row p xs = refuse (ltb (length xs) (size_of xs)) descriptor_cut p (length xs)

-- that row, then the verdict v on the shorter loop, at its place
abbrev pub row_then : List ℕ → (ℕ → Verdict) → ℕ → Verdict
row_then xs v p = cut_row p xs ▷ v (p + size_of xs)

unfoldable pub cut_verdict : ℕ → List ℕ → Verdict
cut_verdict p xs = told (λ q. Fine) row_then xs p

-- ---- the answer: how many, or the refusal

unfoldable pub counted : Verdict → ℕ → Result ℕ Refusal
counted (Ok _) n = Ok n
counted (Err r) n = Err r
