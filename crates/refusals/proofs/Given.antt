-- What it is to answer a number of the fixed list alone.
-- Assumes nothing.
use Prim.Native.Nat.{ℕ}
use mathlib.Core.Path.{◌≡◌, sym, ap, ◌∙◌}
use mathlib.Core.Bool.{true, false, false≢true}
use mathlib.Core.List.{List}
use Rattle.wire.specs.declared.verdict.Refusal.{Refusal}
use Rattle.wire.proofs.Among.{listed, all_listed, Among, listed_more, among-more, Never, among-never}
use Rattle.refusals.specs.FixedList.{fixed_list}
use Rattle.wire.specs.Verdict.{Verdict}

-- of a verdict, and of a refusal
abbrev pub Given : Verdict → Type 0
Given v = Among fixed_list v

abbrev pub OnList : Refusal → Type 0
OnList r = listed r.number fixed_list ≡ true

-- by a shorter list
pub given : (ns : List ℕ) (v : Verdict) → all_listed ns fixed_list ≡ true → Among ns v → Given v
given ns v a p = among-more ns fixed_list v a p

pub on_list : (ns : List ℕ) (r : Refusal) → all_listed ns fixed_list ≡ true → listed r.number ns ≡ true → OnList r
on_list ns r a p = listed_more ns fixed_list r.number a p

-- a number that is not on the list is the answer of no call, be the answer a verdict or a refusal of another type
pub never : (n : ℕ) (v : Verdict) → listed n fixed_list ≡ false → Given v → Never n v
never n v h g = among-never fixed_list v n g h

pub never-refused : (n : ℕ) (r : Refusal) → listed n fixed_list ≡ false → OnList r → r.number ≡ n → ⊥
never-refused n r h o e = false≢true (sym h ∙ ap (λ k. listed k fixed_list) (sym e) ∙ o)
