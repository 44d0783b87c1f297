use Prim.Native.Nat.{ℕ}
use mathlib.Core.Path.{ap, ◌∙◌}
use native.Mathlib.Omega.{arith}
use lib.ListN.{set}
use Rattle.number_set.specs.Members.{members, of_members}
use Rattle.number_set.proofs.Carried.{carried}
use Rattle.number_set.proofs.Sets.{with-words}
use borrow.Author.Rules.{rules}
use Rattle.number_set.proofs.NumberSet.with.Goals as goal

pub returns : goal.returns
returns c =
    let wide = c.wide-n in
    let a = c.args in
    with-words
    a.self _ a.member _ _ _ _ (carried a.self _ c.well_formed.0) (omega (arith, wide.ensures.1))
    c.told-a.ensures
    c.told-b.ensures
    c.told-c.ensures
    c.told-d.ensures
    ∙ ap (λ (k : ℕ). of_members (set (members a.self) k a.member)) wide.ensures.0
