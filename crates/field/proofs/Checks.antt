-- What the check of a field says when it is passed, that it is passed then, and that its only number is 22.
-- Assumes nothing.
use Prim.Native.Nat.{ℕ, ◌+◌, ◌≤◌}
use mathlib.Core.Path.{◌≡◌, refl}
use mathlib.Core.List.{[], ◌∷◌}
use native.Mathlib.Omega.{arith}
use native.Mathlib.Nat.{mod-eq_of_lt}
use Rattle.field.specs.Fields.{check_field, low}
use Rattle.field.specs.declared.Field.{Field}
use Rattle.wire.specs.Refusals.{too_wide}
use Rattle.wire.proofs.Among.{Among, among-row}
use Rattle.wire.proofs.Verdicts.{passed-ltb, pass-ltb}
use Rattle.wire.specs.Verdict.{Fine}

pub field-passed : (f : Field) (n : ℕ) → check_field f n ≡ Fine → n ≤ f.widest
unfolding check_field
field-passed f n e = passed-ltb f.widest n _ f.rank n e

pub field-pass : (f : Field) (n : ℕ) → n ≤ f.widest → check_field f n ≡ Fine
unfolding check_field
field-pass f n h = pass-ltb f.widest n _ f.rank n h

-- a number that passes is what a reader takes of it
pub low-whole : (f : Field) (n : ℕ) → n ≤ f.widest → low f n ≡ n
low-whole f n h = mod-eq_of_lt (omega arith)

-- what it can answer at all
pub field-listed : (f : Field) (n : ℕ) → Among (too_wide ∷ []) (check_field f n)
unfolding check_field
field-listed f n = among-row (too_wide ∷ []) _ too_wide f.rank n refl
