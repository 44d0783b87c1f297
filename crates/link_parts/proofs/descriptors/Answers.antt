use Rattle.link.proofs.Parts.{descriptors-inside}
use Rattle.spans.proofs.SpanLaws.{span-inside}
use borrow.Author.Rules.{rules}
use Rattle.link_parts.proofs.descriptors.Goals as goal

pub returns : goal.returns
returns c =
    let s = c.args.s.now in
    rw (c.descriptor_span.ensures, span-inside s _ (descriptors-inside s)) at c.handed.ensures
