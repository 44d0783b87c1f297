use mathlib.Core.Path.{◌≡◌}
use Rattle.wire.proofs.Lists.{bytes-known}
use Rattle.rct_parts.proofs.Inside.{body-inside}
use borrow.Author.Rules.{rules}
use Rattle.rct_parts.proofs.link_body.Goals as goal

pub returns : goal.returns
returns c =
    let args = c.args in
    let s = args.s.now in
    rw (c.body_span_of.ensures, c.numbered_body.ensures, body-inside s args.number (bytes-known s c.type_inv.s)) at c.handed.ensures
