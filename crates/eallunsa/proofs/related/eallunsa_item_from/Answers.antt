use borrow.Author.Rules.{rules}
use Rattle.eallunsa.proofs.related.eallunsa_item_from.Goals as goal

pub returns : goal.returns
returns c = rw (← c.item_from.ensures) c.of.ensures
