use mathlib.Core.Path.{◌≡◌, sym, ◌∙◌}
use Rattle.rnt_walker.proofs.Walks.{walked-read, walked-refused}
use Rattle.rnt_providers.proofs.Answers.{authority-closed}
use borrow.Author.Rules.{rules}
use Rattle.wire.proofs.Verdicts.{handed-on}
use Rattle.rnt_providers.proofs.read_authority.Goals as goal

pub authority_at-requires : goal.authority_at-requires
authority_at-requires c =
    let plain-places = c.plain_places in
    let g = walked-read _ _ _ (sym plain-places.ensures ∙ c.in_ok-places.was) in
    (sym g.1, g.0)

pub returns : goal.returns
returns c = c.authority_at.ensures

pub returns-in_err-places : goal.returns-in_err-places
returns-in_err-places c =
    let args = c.args in
    let plain-places = c.plain_places in
    handed-on _ _ c.from_residual.ensures ∙ authority-closed args.s.now args.number args.authority _ (walked-refused _ _ _ (sym plain-places.ensures ∙ c.in_err-places.was))
