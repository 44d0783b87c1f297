use Rattle.wire.specs.Verdict.{reached}
use Rattle.rct_walker.proofs.walk.past_any_links.Goals as goal

pub returns-then-n-eq0 : goal.returns-then-n-eq0
unfolding reached
returns-then-n-eq0 c = rw c.if-n-eq0.true
