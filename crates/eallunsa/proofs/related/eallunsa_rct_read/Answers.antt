use borrow.Author.Rules.{rules}
use Rattle.eallunsa.proofs.related.eallunsa_rct_read.Goals as goal

pub returns : goal.returns
returns c = rw (← c.read_section.ensures) c.of.ensures
