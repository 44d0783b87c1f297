use mathlib.Core.Path.{sym}
use borrow.Author.Tests.{lt-ltb, le-ltb}
use Rattle.length_field.specs.Lengths.{long_row}
use Rattle.wire.proofs.Verdicts.{refused-row, pass-ltb}
use Rattle.length_field.proofs.LengthField.check_left.Goals as goal

pub returns-then-left-self : goal.returns-then-left-self
unfolding long_row
returns-then-left-self c = sym (refused-row _ _ _ _ (lt-ltb _ _ c.if-left-self.true))

pub returns : goal.returns
unfolding long_row
returns c = sym (pass-ltb _ _ _ _ _ c.if-left-self.false)
