use borrow.Author.Rules.{rules}
use Rattle.flat_locator.proofs.FlatWindows.of.Goals as goal

pub returns-in-None : goal.returns-in-None
returns-in-None c = rw c.in-None.is

pub returns-in-Some : goal.returns-in-Some
returns-in-Some c = rw c.in-Some.is
