use Rattle.link_walker.proofs.Stages.{came-at, stop-uri, stop-locator, front-past, stop-rest, body-past}
use mathlib.Core.Path.{sym, ◌∙◌}
use borrow.Author.Rules.{rules}
use Rattle.wire.proofs.Verdicts.{handed-on}
use Rattle.link_walker.proofs.check_body.Goals as goal

pub past_locator-requires : goal.past_locator-requires
past_locator-requires c = came-at _ _ _ _ c.past_uri.ensures c.in_ok-uri_end.was

pub past_rest-requires : goal.past_rest-requires
past_rest-requires c = front-past _ _ c.past_uri.ensures _ c.in_ok-uri_end.was _ c.past_locator.ensures _ c.in_ok-count.was

pub returns : goal.returns
returns c = sym (body-past _ _ c.past_uri.ensures _ c.in_ok-uri_end.was _ c.past_locator.ensures _ c.in_ok-count.was _ c.past_rest.ensures _ c.in_ok-past_rest.was).fine

pub returns-in_err-past_rest : goal.returns-in_err-past_rest
returns-in_err-past_rest c = handed-on _ _ c.from_residual-in_err-past_rest.ensures ∙ sym (stop-rest _ _ c.past_uri.ensures _ c.in_ok-uri_end.was _ c.past_locator.ensures _ c.in_ok-count.was _ c.past_rest.ensures _ c.in_err-past_rest.was)

pub returns-in_err-count : goal.returns-in_err-count
returns-in_err-count c = handed-on _ _ c.from_residual-in_err-count.ensures ∙ sym (stop-locator _ _ c.past_uri.ensures _ c.in_ok-uri_end.was _ c.past_locator.ensures _ c.in_err-count.was)

pub returns-in_err-uri_end : goal.returns-in_err-uri_end
returns-in_err-uri_end c = handed-on _ _ c.from_residual.ensures ∙ sym (stop-uri _ _ c.past_uri.ensures _ c.in_err-uri_end.was)
