use borrow.Author.Rules.{rules}
use Rattle.flat_sections.proofs.no_related.Goals as goal

pub returns : goal.returns
returns c = rw c.none-section.ensures
