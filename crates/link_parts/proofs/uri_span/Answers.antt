use Rattle.link.proofs.Nothing.{no-uri-refused}
use Rattle.link.proofs.Parts.{uri-ends, uri-ends-not}
use Rattle.link_walker.proofs.Places.{places-at, places-refused}
use borrow.Author.Rules.{rules}
use mathlib.Core.Path.{sym, ◌∙◌}
use Rattle.link_parts.proofs.uri_span.Goals as goal

pub returns-then-uri_end-lt-URI_START : goal.returns-then-uri_end-lt-URI_START
returns-then-uri_end-lt-URI_START c =
    let s = c.args.s.now in
    let found = c.body_places-places.ensures in
    let f = places-at s _ _ _ (sym found ∙ c.in-Ok.is) in
    uri-ends-not s (rw f.uri at c.if-uri_end-lt-URI_START.true)

pub returns-else-uri_end-lt-URI_START : goal.returns-else-uri_end-lt-URI_START
returns-else-uri_end-lt-URI_START c =
    let s = c.args.s.now in
    let found = c.body_places-places.ensures in
    let f = places-at s _ _ _ (sym found ∙ c.in-Ok.is) in
    rw f.uri (uri-ends s f.fine (rw f.uri at c.if-uri_end-lt-URI_START.false))

pub returns-in-Err : goal.returns-in-Err
returns-in-Err c =
    let s = c.args.s.now in
    let found = c.body_places-places.ensures in
    sym (no-uri-refused s _ (places-refused s _ (sym found ∙ c.in-Err.is)))
