use borrow.Author.Tests.{lt-ltb, le-ltb}
use Rattle.wire.specs.Verdict.{refuse}
use Rattle.link_draft.specs.Checks.{check_range}
use borrow.Author.Rules.{rules}
use Rattle.link_draft.proofs.check_range.Goals as goal

pub returns-then-have-start : goal.returns-then-have-start
unfolding check_range refuse
returns-then-have-start c = simp (lt-ltb _ _ c.if-have-start.true)

pub returns : goal.returns
unfolding check_range refuse
returns c = simp (le-ltb _ _ c.if-have-start.false)
