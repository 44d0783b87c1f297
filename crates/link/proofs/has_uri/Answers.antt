use borrow.Author.Tests.{eq-eqb, ne_eqb}
use Rattle.link.proofs.has_uri.Goals as goal

pub returns-then-link_type-eq0 : goal.returns-then-link_type-eq0
returns-then-link_type-eq0 c = simp (eq-eqb _ _ c.if-link_type-eq0.true)

pub returns-else-link_type-eq0 : goal.returns-else-link_type-eq0
returns-else-link_type-eq0 c = simp (ne_eqb _ _ c.if-link_type-eq0.false)
