use mathlib.Core.Path.{◌≡◌, sym, ◌∙◌}
use Rattle.rnt_walker.proofs.Walks.{walked-read, walked-refused}
use Rattle.rnt_providers.proofs.Answers.{provider-closed}
use borrow.Author.Rules.{rules}
use Rattle.wire.proofs.Verdicts.{handed-on}
use Rattle.rnt_providers.proofs.read_provider.Goals as goal

pub provider_at-requires : goal.provider_at-requires
provider_at-requires c =
    let plain-places = c.plain_places in
    let g = walked-read _ _ _ (sym plain-places.ensures ∙ c.in_ok-places.was) in
    (sym g.1, g.0)

pub returns : goal.returns
returns c = c.provider_at.ensures

pub returns-in_err-places : goal.returns-in_err-places
returns-in_err-places c =
    let args = c.args in
    let plain-places = c.plain_places in
    handed-on _ _ c.from_residual.ensures ∙ provider-closed args.s.now args.number _ (walked-refused _ _ _ (sym plain-places.ensures ∙ c.in_err-places.was))
