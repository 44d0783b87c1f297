use Rattle.rct_walker.proofs.Walks.{span-at, span_none}
use Rattle.rct_walker.proofs.walk.link_span.Goals as goal

pub returns-then-number-count : goal.returns-then-number-count
returns-then-number-count c = span-at _ _ _ _ c.if-number-count.true

pub returns-else-number-count : goal.returns-else-number-count
returns-else-number-count c = span_none _ _ _ _ c.if-number-count.false
