use Rattle.number_set.proofs.Sets.{of_none}
use Rattle.rct_index.specs.Index.{sets_of}
use borrow.Author.Rules.{rules}
use Rattle.rct_index.proofs.LinkSets.none.Goals as goal

pub returns : goal.returns
unfolding sets_of
returns c = rw (c.none.ensures, c.none-2.ensures, c.none-3.ensures, of_none)
