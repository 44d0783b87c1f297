use Rattle.link_walker.proofs.Stages.{tail-14, tail-refused, tail-past}
use borrow.Author.Rules.{rules}
use Rattle.wire.proofs.Verdicts.{handed-on}
use mathlib.Core.Path.{◌∙◌}
use Rattle.link_walker.proofs.walk.up_to_tail.Goals as goal

pub returns-then-have-start : goal.returns-then-have-start
returns-then-have-start c =
    let args = c.args in
    tail-14 args.s.now args.p c.if-have-start.true

pub returns : goal.returns
returns c =
    let args = c.args in
    let if1 = c.if-have-start in
    let of-bytes = c.of_bytes-field in
    let check-last = c.check_last in
    tail-past args.s.now args.p if1.false _ _ of-bytes.ensures check-last.ensures c.in_ok-check_last.was

pub returns-in_err-check_last : goal.returns-in_err-check_last
returns-in_err-check_last c =
    let args = c.args in
    let if1 = c.if-have-start in
    let of-bytes = c.of_bytes-field in
    let check-last = c.check_last in
    handed-on _ _ c.from_residual.ensures ∙ tail-refused args.s.now args.p if1.false _ _ of-bytes.ensures check-last.ensures _ c.in_err-check_last.was
