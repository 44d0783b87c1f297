use mathlib.Core.Path.{sym, ap, ◌∙◌}
use native.Mathlib.Omega.{arith}
use Rattle.wire.proofs.Verdicts.{at-reached, refused-reached, reached-at, reached-refused, handed-on}
use Rattle.rct.specs.Reading.{loop_verdict}
use Rattle.rct_blocks.specs.Ends.{end_of}
use Rattle.rct_walker.proofs.Walks.{links-within, rest-stop, rest-loop}
use Rattle.rct_walker.proofs.walk.past_rest.Goals as goal

pub overflow_cast-loop_at : goal.overflow_cast-loop_at
overflow_cast-loop_at c =
    let past-any-links = c.past_any_links in
    let args = c.args in
    let g = reached-at _ _ _ (sym past-any-links.ensures ∙ c.in_ok-loop_at.was) in
    let w = links-within args.left args.payload.now (end_of args.payload.now) args.at (omega arith) g.0 in
    omega (arith, w, g.1)

pub returns : goal.returns
returns c =
    let args = c.args in
    let past-any-links = c.past_any_links in
    let check-loop = c.check_loop in
    let s = args.payload.now in
    let g = reached-at _ _ _ (sym past-any-links.ensures ∙ c.in_ok-loop_at.was) in
    at-reached _ _ _ (rest-loop args.left s _ _ g.0 ∙ ap (λ p. loop_verdict s (end_of s) p) g.1 ∙ sym check-loop.ensures ∙ c.in_ok-check_loop.was) g.1

pub returns-in_err-check_loop : goal.returns-in_err-check_loop
returns-in_err-check_loop c =
    let args = c.args in
    let past-any-links = c.past_any_links in
    let check-loop = c.check_loop in
    let s = args.payload.now in
    let g = reached-at _ _ _ (sym past-any-links.ensures ∙ c.in_ok-loop_at.was) in
    handed-on _ _ c.from_residual-in_err-check_loop.ensures ∙ refused-reached _ _ _ (rest-loop args.left s _ _ g.0 ∙ ap (λ p. loop_verdict s (end_of s) p) g.1 ∙ sym check-loop.ensures ∙ c.in_err-check_loop.was)

pub returns-in_err-loop_at : goal.returns-in_err-loop_at
returns-in_err-loop_at c =
    let args = c.args in
    let past-any-links = c.past_any_links in
    handed-on _ _ c.from_residual.ensures ∙ refused-reached _ _ _ (rest-stop args.left args.payload.now _ _ _ (reached-refused _ _ _ (sym past-any-links.ensures ∙ c.in_err-loop_at.was)))
