use mathlib.Core.Path.{◌≡◌, sym, ◌∙◌}
use Rattle.wire.proofs.Verdicts.{handed-on}
use Rattle.rct_walker.proofs.Walks.{walked-read, walked-refused}
use Rattle.rct_bodies.proofs.Bodies.{rows-stop, body_refused}
use borrow.Author.Rules.{rules}
use Rattle.rct_bodies.proofs.numbered_body.Goals as goal

pub body_at-requires : goal.body_at-requires
body_at-requires c =
    let g = walked-read _ _ _ (sym c.plain_places.ensures ∙ c.in_ok-places.was) in
    (sym g.1, g.0)

pub returns : goal.returns
returns c = c.body_at.ensures

pub returns-in_err-places : goal.returns-in_err-places
returns-in_err-places c =
    let args = c.args in
    let s = args.s.now in
    handed-on _ _ c.from_residual.ensures ∙ body_refused s args.number _ (rows-stop s args.number _ (walked-refused _ _ _ (sym c.plain_places.ensures ∙ c.in_err-places.was)))
