use borrow.Author.Rules.{rules}
use Rattle.locator_checker.proofs.check_service.Goals as goal

pub returns-in-Triplet : goal.returns-in-Triplet
returns-in-Triplet c =
    rw c.in-Triplet.is c.check.ensures

pub returns-in-Full : goal.returns-in-Full
returns-in-Full c =
    rw c.in-Full.is c.check-in-Full.ensures
