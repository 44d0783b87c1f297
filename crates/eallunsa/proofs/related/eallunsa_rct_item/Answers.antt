use borrow.Author.Rules.{rules}
use Rattle.eallunsa.proofs.related.eallunsa_rct_item.Goals as goal

pub returns : goal.returns
returns c = rw (← c.read_item.ensures) c.of.ensures
