use mathlib.Core.Path.{sym, ◌∙◌}
use native.Mathlib.Omega.{arith}
use Rattle.wire.proofs.Verdicts.{reached-at, reached-refused, handed-on}
use Rattle.rct.specs.Syntax.{head_length}
use Rattle.rct.proofs.Links.{after-sum}
use Rattle.rct_walker.proofs.Walks.{at-spanned, refused-spanned, links-within, links-on, links-stop}
use Rattle.rct_walker.proofs.walk.past_link.Goals as goal

pub overflow_cast-start : goal.overflow_cast-start
overflow_cast-start c =
    let past-links = c.past_links in
    let args = c.args in
    let g = reached-at _ _ _ (sym past-links.ensures ∙ c.in_ok-start.was) in
    let w = links-within args.before args.payload.now _ head_length (omega arith) g.0 in
    omega (arith, w, g.1)

pub past_links-requires-2 : goal.past_links-requires-2
past_links-requires-2 c =
    let past-links = c.past_links in
    let args = c.args in
    let g = reached-at _ _ _ (sym past-links.ensures ∙ c.in_ok-start.was) in
    let w = links-within args.before args.payload.now _ head_length (omega arith) g.0 in
    omega (arith, w, g.1)

pub returns : goal.returns
returns c =
    let args = c.args in
    let past-links = c.past_links in
    let past-links2 = c.past_links-2 in
    let s = args.payload.now in
    let g = reached-at _ _ _ (sym past-links.ensures ∙ c.in_ok-start.was) in
    let k = reached-at _ _ _ (sym (rw (← g.1) at past-links2.ensures) ∙ c.in_ok-end.was) in
    at-spanned _ _ _ _ _ (sym (links-on args.before args.own s _ head_length g.0) ∙ k.0) g.1 (after-sum args.before args.own s head_length ∙ k.1)

pub returns-in_err-end : goal.returns-in_err-end
returns-in_err-end c =
    let args = c.args in
    let past-links = c.past_links in
    let past-links2 = c.past_links-2 in
    let s = args.payload.now in
    let g = reached-at _ _ _ (sym past-links.ensures ∙ c.in_ok-start.was) in
    handed-on _ _ c.from_residual-in_err-end.ensures ∙ refused-spanned _ _ _ _ (sym (links-on args.before args.own s _ head_length g.0) ∙ reached-refused _ _ _ (sym (rw (← g.1) at past-links2.ensures) ∙ c.in_err-end.was))

pub returns-in_err-start : goal.returns-in_err-start
returns-in_err-start c =
    let args = c.args in
    let past-links = c.past_links in
    handed-on _ _ c.from_residual.ensures ∙ refused-spanned _ _ _ _ (links-stop args.before args.own args.payload.now _ head_length _ (reached-refused _ _ _ (sym past-links.ensures ∙ c.in_err-start.was)))
