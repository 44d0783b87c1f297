use borrow.Author.Rules.{rules}
use Rattle.flat_link.proofs.uri_range.Goals as goal

pub returns-in-None : goal.returns-in-None
returns-in-None c = rw c.in-None.is
