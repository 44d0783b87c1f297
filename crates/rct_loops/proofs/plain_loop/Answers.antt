use mathlib.Core.Path.{sym, ◌∙◌}
use Rattle.rct_walker.proofs.Loops.{loop-had, loop-not, had-loop, not-loop}
use borrow.Author.Rules.{rules}
use Rattle.wire.proofs.Verdicts.{handed-on}
use Rattle.rct_loops.proofs.plain_loop.Goals as goal

pub returns : goal.returns
returns c =
    let args = c.args in
    let plain = c.plain in
    let read-loop = c.read_loop in
    had-loop _ args.s.now _ _ _ (loop-had _ _ _ _ _ (sym (rw plain.ensures at read-loop.ensures) ∙ c.in_ok-found.was))

pub returns-in_err-found : goal.returns-in_err-found
returns-in_err-found c =
    let args = c.args in
    let plain = c.plain in
    let read-loop = c.read_loop in
    handed-on _ _ c.from_residual.ensures ∙ not-loop _ args.s.now _ (loop-not _ _ _ (sym (rw plain.ensures at read-loop.ensures) ∙ c.in_err-found.was))
