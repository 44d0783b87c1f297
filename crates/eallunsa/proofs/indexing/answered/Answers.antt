use borrow.Author.Rules.{rules}
use Rattle.eallunsa.proofs.indexing.answered.Goals as goal

pub returns : goal.returns
returns c = rw (← c.edited.ensures, ← c.bring_up.ensures) c.of.ensures
