-- What a range's row of the checks says when it is passed, and that it is passed then; and the same of a list of rows.
-- Assumes nothing.
use Prim.Native.Nat.{ℕ, zero, suc, ◌+◌}
use mathlib.Core.Path.{◌≡◌, refl}
use mathlib.Core.List.{List, [], ◌∷◌}
use lib.ListN.{length, take}
use Rattle.wire.specs.Refusals.{past_text}
use Rattle.wire.proofs.Verdicts.{then-fine, fine-then, passed-ltb, pass-ltb}
use Rattle.link.specs.declared.Range.{Range}
use Rattle.link_draft.specs.Checks.{first_in, check_range}
use Rattle.link_draft.specs.Carried.{Each, Within}
use Rattle.wire.specs.Verdict.{Fine, Verdict}

pub range-passed : (t : List ℕ) (r : Range) → check_range (length t) r ≡ Fine → Within t r
unfolding check_range
range-passed t r e = passed-ltb (length t) (r.start + r.length) past_text r.start r.length e

pub range-pass : (t : List ℕ) (r : Range) → Within t r → check_range (length t) r ≡ Fine
unfolding check_range
range-pass t r h = pass-ltb (length t) (r.start + r.length) past_text r.start r.length h

-- ---- a list of rows

module _ {A : Type 0} {P : A → Type 0} (f : A → Verdict) where
  pub each-passed : ((x : A) → f x ≡ Fine → P x) → (xs : List A) → first_in f xs ≡ Fine → Each P xs
  unfolding first_in
  each-passed g [] e = tt
  each-passed g (x ∷ xs) e = let two = then-fine (f x) (first_in f xs) e in (g x two.0, each-passed g xs two.1)

  pub each-pass : ((x : A) → P x → f x ≡ Fine) → (xs : List A) → Each P xs → first_in f xs ≡ Fine
  unfolding first_in
  each-pass g [] e = refl
  each-pass g (x ∷ xs) e = fine-then (f x) (first_in f xs) (g x e.0) (each-pass g xs e.1)

-- of some first elements
pub each_take : {A : Type 0} (P : A → Type 0) (n : ℕ) (xs : List A) → Each P xs → Each P (take n xs)
each_take P zero xs e = tt
each_take P (suc n) [] e = tt
each_take P (suc n) (x ∷ xs) e = (e.0, each_take P n xs e.1)
