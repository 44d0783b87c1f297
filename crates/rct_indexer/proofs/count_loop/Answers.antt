use mathlib.Core.Path.{sym, ◌∙◌}
use Rattle.rct_indexer.proofs.Walks.{tail-on, tail-stops}
use borrow.Author.Rules.{rules}
use Rattle.wire.proofs.Verdicts.{handed-on}
use Rattle.rct_indexer.proofs.count_loop.Goals as goal

pub returns : goal.returns
returns c =
    let args = c.args in
    let check-loop = c.check_loop in
    tail-on args.payload.now args.at _ (sym check-loop.ensures ∙ c.in_ok-check_loop.was) c.count_descriptors.ensures

pub returns-in_err-check_loop : goal.returns-in_err-check_loop
returns-in_err-check_loop c =
    let args = c.args in
    let check-loop = c.check_loop in
    handed-on _ _ c.from_residual.ensures ∙ tail-stops args.payload.now args.at _ (sym check-loop.ensures ∙ c.in_err-check_loop.was)
