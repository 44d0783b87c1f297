use borrow.Author.Tests.{eq-eqb, ne_eqb}
use Rattle.rnt_walker.proofs.walk.found_at.Goals as goal

pub returns-then-i-number : goal.returns-then-i-number
returns-then-i-number c = rw (eq-eqb _ _ c.if-i-number.true)

pub returns-else-i-number : goal.returns-else-i-number
returns-else-i-number c = rw (ne_eqb _ _ c.if-i-number.false)
