use borrow.Author.Rules.{rules}
use Rattle.eallunsa.proofs.related.eallunsa_rct_entry.Goals as goal

pub returns : goal.returns
returns c = rw (← c.read_entry.ensures) c.of.ensures
