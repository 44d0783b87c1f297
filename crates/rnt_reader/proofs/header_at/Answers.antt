use mathlib.Core.Path.{◌∙◌}
use Rattle.wire.proofs.Lists.{bytes-known}
use Rattle.section_header.proofs.HeaderLaws.{header-six}
use borrow.Author.Rules.{rules}
use Rattle.rnt_reader.proofs.header_at.Goals as goal

pub returns : goal.returns
returns c =
    let args = c.args in
    let s = args.s.now in
    rw (c.read_header-section.ensures ∙ header-six s (bytes-known s c.type_inv.s))
