use borrow.Author.Rules.{rules}
use Rattle.eallunsa.proofs.resolution.eallunsa_rnt_authority_at.Goals as goal

pub returns : goal.returns
returns c = rw (← c.read_authority.ensures) c.of.ensures
