use Rattle.locator.specs.Checks.{check_fields}
use borrow.Author.Rules.{rules}
use Rattle.locator_checker.proofs.check_fields.Goals as goal

pub returns : goal.returns
unfolding check_fields
returns c =
    let check2 = c.check-2 in
    let check = c.check in
    let first_of = c.first_of-later in
    let check-widths = c.check_widths in
    let check-service = c.check_service in
    rw (c.first_of-2.ensures, c.first_of.ensures, check2.ensures, check.ensures, first_of.ensures, check-widths.ensures, check-service.ensures)
