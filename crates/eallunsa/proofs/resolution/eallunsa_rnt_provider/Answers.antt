use borrow.Author.Rules.{rules}
use Rattle.eallunsa.proofs.resolution.eallunsa_rnt_provider.Goals as goal

pub returns : goal.returns
returns c = rw (← c.read_provider.ensures) c.of.ensures
