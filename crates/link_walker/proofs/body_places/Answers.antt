use Rattle.link_walker.proofs.Places.{at_places, refused-places}
use Rattle.link_walker.proofs.Stages.{came-at, stop-uri, stop-locator, front-past, stop-rest, body-past}
use borrow.Author.Rules.{rules}
use Rattle.wire.proofs.Verdicts.{handed-on}
use mathlib.Core.Path.{◌∙◌}
use Rattle.link_walker.proofs.body_places.Goals as goal

pub past_locator-requires : goal.past_locator-requires
past_locator-requires c = came-at _ _ _ _ c.past_uri.ensures c.in_ok-uri_end.was

pub past_rest-requires : goal.past_rest-requires
past_rest-requires c = front-past _ _ c.past_uri.ensures _ c.in_ok-uri_end.was _ c.past_locator.ensures _ c.in_ok-count_at.was

pub returns : goal.returns
returns c = at_places _ _ _ _ (body-past _ _ c.past_uri.ensures _ c.in_ok-uri_end.was _ c.past_locator.ensures _ c.in_ok-count_at.was _ c.past_rest.ensures _ c.in_ok-tail.was)

pub returns-in_err-tail : goal.returns-in_err-tail
returns-in_err-tail c = handed-on _ _ c.from_residual-in_err-tail.ensures ∙ refused-places _ _ (stop-rest _ _ c.past_uri.ensures _ c.in_ok-uri_end.was _ c.past_locator.ensures _ c.in_ok-count_at.was _ c.past_rest.ensures _ c.in_err-tail.was)

pub returns-in_err-count_at : goal.returns-in_err-count_at
returns-in_err-count_at c = handed-on _ _ c.from_residual-in_err-count_at.ensures ∙ refused-places _ _ (stop-locator _ _ c.past_uri.ensures _ c.in_ok-uri_end.was _ c.past_locator.ensures _ c.in_err-count_at.was)

pub returns-in_err-uri_end : goal.returns-in_err-uri_end
returns-in_err-uri_end c = handed-on _ _ c.from_residual.ensures ∙ refused-places _ _ (stop-uri _ _ c.past_uri.ensures _ c.in_err-uri_end.was)
