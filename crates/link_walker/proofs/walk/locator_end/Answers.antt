use Rattle.link_walker.proofs.Stages.{locator-past, locator-10, locator-within}
use borrow.Author.Rules.{rules}
use native.Mathlib.Omega.{arith}
use Rattle.wire.proofs.Verdicts.{handed-on}
use mathlib.Core.Path.{◌∙◌}
use Rattle.link_walker.proofs.walk.locator_end.Goals as goal

pub overflow_add-result : goal.overflow_add-result
overflow_add-result c =
    let start = c.args in
    let used = c.locator_size.ensures in
    let h = c.requires in
    omega (arith, locator-within start.s.now start.at _ used _ h c.in_ok-used.was)

pub returns : goal.returns
returns c =
    let start = c.args in
    let used = c.locator_size.ensures in
    locator-past start.s.now start.at _ used _ c.in_ok-used.was

pub returns-in_err-used : goal.returns-in_err-used
returns-in_err-used c =
    let start = c.args in
    let used = c.locator_size.ensures in
    handed-on _ _ c.from_residual.ensures ∙ locator-10 start.s.now start.at _ used _ c.in_err-used.was
