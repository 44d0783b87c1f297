use borrow.Author.Rules.{rules}
use Rattle.rct.proofs.RctHeader.new.Goals as goal

pub returns : goal.returns
returns c = rw c.new-section.ensures
