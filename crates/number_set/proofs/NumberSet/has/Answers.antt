use mathlib.Core.Path.{sym}
use native.Mathlib.Omega.{arith}
use Rattle.number_set.proofs.Carried.{carried}
use Rattle.number_set.proofs.Sets.{members-at, members-past}
use borrow.Author.Rules.{rules}
use Rattle.number_set.proofs.NumberSet.has.Goals as goal

pub returns-then-k-ge-SIZE : goal.returns-then-k-ge-SIZE
returns-then-k-ge-SIZE c =
    let a = c.args in
    sym (members-past a.self a.k (carried a.self _ c.well_formed.0) (omega (arith, c.if-k-ge-SIZE.true)))

pub returns : goal.returns
returns c =
    let a = c.args in
    sym (members-at a.self a.k)
