use borrow.Author.Rules.{rules}
use Rattle.eallunsa.proofs.indexing.eallunsa_rct_index.Goals as goal

pub returns : goal.returns
returns c = rw (← c.build_index.ensures) c.of.ensures
