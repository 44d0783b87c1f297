use borrow.Author.Rules.{rules}
use Rattle.flat_link.proofs.place_flat.Goals as goal

pub returns-in-None : goal.returns-in-None
returns-in-None c = rw (c.in-None.is, ← c.no_locator.ensures) c.of.ensures

pub returns-in-Some : goal.returns-in-Some
returns-in-Some c = rw c.in-Some.is c.of-in-Some.ensures
