use Rattle.rct_index.specs.Index.{marks_in}
use borrow.Author.Rules.{rules}
use Rattle.rct_index.proofs.LinkMarks.of.Goals as goal

pub returns : goal.returns
unfolding marks_in
returns c = rw (c.uri_here.ensures, c.locator_here.ensures)
