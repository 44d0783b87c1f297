use borrow.Author.Rules.{rules}
use Rattle.eallunsa.proofs.related.eallunsa_rct_link.Goals as goal

pub returns : goal.returns
returns c = rw (← c.read_link.ensures) c.of.ensures
