use mathlib.Core.Path.{◌≡◌}
use Rattle.wire.proofs.Lists.{bytes-known}
use Rattle.rct_parts.proofs.Inside.{loop-inside}
use borrow.Author.Rules.{rules}
use Rattle.rct_parts.proofs.loop_descriptors.Goals as goal

pub returns : goal.returns
returns c =
    let s = c.args.s.now in
    rw (c.loop_span_of.ensures, c.read_section.ensures, loop-inside s (bytes-known s c.type_inv.s)) at c.handed.ensures
