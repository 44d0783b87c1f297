use mathlib.Core.Bool.{xor}
use Rattle.wire.specs.Verdict.{refuse, ◌▷◌}
use Rattle.link_draft.specs.Checks.{check_presence}
use borrow.Author.Rules.{rules}
use Rattle.link_checker.proofs.check_presence.Goals as goal

pub returns-then-uri_here-has_uri : goal.returns-then-uri_here-has_uri
unfolding check_presence refuse xor ◌▷◌
returns-then-uri_here-has_uri c =
    let uri-here = c.uri_here in
    simp (← uri-here.ensures, ← c.has_uri.ensures, c.if-uri_here-has_uri.true)

pub returns-then-locator_here-has_locator : goal.returns-then-locator_here-has_locator
unfolding check_presence refuse xor ◌▷◌
returns-then-locator_here-has_locator c =
    let locator-here = c.locator_here in
    let uri = c.if-uri_here-has_uri in
    let due = c.has_uri.ensures in
    let here = c.uri_here.ensures in
    simp (← here, ← due, uri.false) (simp (← locator-here.ensures, ← c.has_locator.ensures, c.if-locator_here-has_locator.true))

pub returns : goal.returns
unfolding check_presence refuse xor ◌▷◌
returns c =
    let locator-here = c.locator_here in
    let uri = c.if-uri_here-has_uri in
    let due = c.has_uri.ensures in
    let here = c.uri_here.ensures in
    simp (← here, ← due, uri.false) (simp (← locator-here.ensures, ← c.has_locator.ensures, c.if-locator_here-has_locator.false))
