use mathlib.Core.Bool.{xor}
use Rattle.wire.specs.Verdict.{refuse}
use Rattle.locator.specs.Checks.{check_windows}
use borrow.Author.Rules.{rules}
use Rattle.locator_checker.proofs.check_windows.Goals as goal

pub returns-then-here-due : goal.returns-then-here-due
unfolding check_windows refuse xor
returns-then-here-due c =
    let here = c.here in
    simp (← here.ensures, ← c.due.ensures, c.if-here-due.true)

pub returns : goal.returns
unfolding check_windows refuse xor
returns c =
    let here = c.here in
    simp (← here.ensures, ← c.due.ensures, c.if-here-due.false)
