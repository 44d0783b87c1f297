use native.Mathlib.Omega.{arith}
use Rattle.number_set.specs.Members.{members}
use Rattle.number_set.proofs.Carried.{carried}
use Rattle.number_count.proofs.Ones.{ones-words}
use borrow.Author.Rules.{rules}
use Rattle.number_count.proofs.count.Goals as goal

pub returns : goal.returns
unfolding members
returns c =
    let f = carried c.args.set _ c.well_formed.0 in
    let o = ones-words c.args.set.words f.four f.each in
    let w₁ = c.ones_of.ensures.0 in
    let w₂ = c.ones_of-2.ensures.0 in
    let w₃ = c.ones_of-3.ensures.0 in
    let w₄ = c.ones_of-4.ensures.0 in
    omega arith
