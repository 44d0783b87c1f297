use Rattle.link.proofs.Parts.{text-inside}
use Rattle.spans.proofs.SpanLaws.{span-inside}
use borrow.Author.Rules.{rules}
use Rattle.link_parts.proofs.promotional_text.Goals as goal

pub returns : goal.returns
returns c =
    let start = c.args in
    rw (c.text_span.ensures, span-inside start.s.now _ (text-inside start.s.now start.number)) at c.handed.ensures
