use Rattle.link.proofs.Parts.{uri-inside}
use Rattle.spans.proofs.SpanLaws.{span-inside}
use borrow.Author.Rules.{rules}
use Rattle.link_parts.proofs.media_uri.Goals as goal

pub returns : goal.returns
returns c =
    let s = c.args.s.now in
    rw (c.uri_span.ensures, span-inside s _ (uri-inside s)) at c.handed.ensures
