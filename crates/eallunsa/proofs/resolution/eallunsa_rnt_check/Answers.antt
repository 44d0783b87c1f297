use borrow.Author.Rules.{rules}
use Rattle.eallunsa.proofs.resolution.eallunsa_rnt_check.Goals as goal

pub returns : goal.returns
returns c = rw (← c.check_section.ensures) c.of.ensures
