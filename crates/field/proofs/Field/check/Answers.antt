use borrow.Author.Tests.{lt-ltb, le-ltb}
use Rattle.field.specs.Fields.{check_field}
use Rattle.wire.specs.Verdict.{refuse}
use Rattle.field.proofs.Field.check.Goals as goal

pub returns-then-self-number : goal.returns-then-self-number
unfolding check_field refuse
returns-then-self-number c = simp (lt-ltb _ _ c.if-self-number.true)

pub returns : goal.returns
unfolding check_field refuse
returns c = simp (le-ltb _ _ c.if-self-number.false)
