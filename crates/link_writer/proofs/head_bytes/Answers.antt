use Rattle.link.specs.Syntax.{field_bytes}
use Rattle.link.specs.Records.{link_of}
use Rattle.link_draft.specs.Writing.{head_bytes}
use borrow.Author.Rules.{rules}
use Rattle.link_writer.proofs.head_bytes.Goals as goal

pub returns : goal.returns
unfolding head_bytes field_bytes link_of
returns c =
    let group = c.low-group.ensures in
    let term = c.low-term.ensures in
    let related = c.low-related.ensures in
    let reserved = c.low-reserved.ensures in
    let type = c.low-link_type.ensures in
    rw (c.low-precedence.ensures, group, term, related, reserved, type)
