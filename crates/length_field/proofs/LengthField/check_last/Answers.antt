use mathlib.Core.Path.{sym, ◌∙◌}
use native.Mathlib.Omega.{arith}
use borrow.Author.Rules.{rules}
use borrow.Author.Tests.{lt-ltb}
use Rattle.length_field.specs.Lengths.{long_row, last_rows}
use Rattle.wire.proofs.Verdicts.{go_on, then-nothing, refused-row, pass-ltb}
use Rattle.length_field.proofs.LengthField.check_last.Goals as goal

pub returns-then-self-left : goal.returns-then-self-left
unfolding long_row last_rows
returns-then-self-left c =
    let a = c.args in
    sym (go_on _ _ (pass-ltb a.left a.self.length _ _ _ (omega (arith, c.if-self-left.true))) ∙ refused-row _ _ _ _ (lt-ltb _ _ c.if-self-left.true))

pub returns : goal.returns
unfolding last_rows
returns c = c.check_left.ensures ∙ sym (then-nothing _ _ (pass-ltb _ _ _ _ _ c.if-self-left.false))
