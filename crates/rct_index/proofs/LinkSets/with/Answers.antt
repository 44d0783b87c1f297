use Rattle.rct_index.specs.Index.{with_marks}
use borrow.Author.Rules.{rules}
use Rattle.rct_index.proofs.LinkSets.with.Goals as goal

pub returns : goal.returns
unfolding with_marks
returns c = rw (c.with.ensures, c.with-2.ensures, c.with-3.ensures)
