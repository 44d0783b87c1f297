use borrow.Author.Rules.{rules}
use Rattle.locator_checker.proofs.check_widths.Goals as goal

pub returns-in-Some : goal.returns-in-Some
returns-in-Some c =
    let check = c.check in
    rw c.in-Some.is (rw (c.first_of.ensures, c.check-in-Some.ensures, check.ensures))
