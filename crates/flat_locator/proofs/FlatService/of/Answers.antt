use borrow.Author.Rules.{rules}
use Rattle.flat_locator.proofs.FlatService.of.Goals as goal

pub returns-in-Triplet : goal.returns-in-Triplet
returns-in-Triplet c = rw c.in-Triplet.is

pub returns-in-Full : goal.returns-in-Full
returns-in-Full c = rw c.in-Full.is
