use borrow.Author.Rules.{rules}
use borrow.Author.Tests.{eq-eqb, ne_eqb}
use Rattle.number_set.proofs.told.Goals as goal

pub returns-then-k-i : goal.returns-then-k-i
returns-then-k-i c = simp (eq-eqb _ _ c.if-k-i.true) c.turned.ensures

pub returns-else-k-i : goal.returns-else-k-i
returns-else-k-i c = simp (ne_eqb _ _ c.if-k-i.false)
