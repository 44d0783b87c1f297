use borrow.Author.Rules.{rules}
use Rattle.eallunsa.proofs.indexing.eallunsa_set_has.Goals as goal

pub returns : goal.returns
returns c = rw (← c.has.ensures) c.flag.ensures.0
