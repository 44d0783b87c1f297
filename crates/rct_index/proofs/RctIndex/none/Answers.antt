use Rattle.rct_index.specs.Index.{no_index}
use borrow.Author.Rules.{rules}
use Rattle.rct_index.proofs.RctIndex.none.Goals as goal

pub returns : goal.returns
unfolding no_index
returns c = rw c.none.ensures
