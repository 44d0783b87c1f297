use borrow.Author.Rules.{rules}
use Rattle.flat_sections.proofs.FlatRctHeader.of.Goals as goal

pub returns : goal.returns
returns c = rw c.of.ensures
