use borrow.Author.Tests.{eq-eqb, ne_eqb}
use borrow.Author.Rules.{rules}
use Rattle.locator_reader.proofs.windows_due.Goals as goal

pub returns-then-head-eq0 : goal.returns-then-head-eq0
returns-then-head-eq0 c = simp (eq-eqb _ _ c.if-head-eq0.true) c.reliable-sure.ensures

pub returns-else-head-eq0 : goal.returns-else-head-eq0
returns-else-head-eq0 c = simp (ne_eqb _ _ c.if-head-eq0.false)
