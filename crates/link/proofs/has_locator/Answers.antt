use borrow.Author.Tests.{eq-eqb, ne_eqb}
use Rattle.link.proofs.has_locator.Goals as goal

pub returns-then-link_type-eq1 : goal.returns-then-link_type-eq1
returns-then-link_type-eq1 c = simp (eq-eqb _ _ c.if-link_type-eq1.true)

pub returns-else-link_type-eq1 : goal.returns-else-link_type-eq1
returns-else-link_type-eq1 c = simp (ne_eqb _ _ c.if-link_type-eq1.false)
