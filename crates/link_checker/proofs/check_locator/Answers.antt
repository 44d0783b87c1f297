use Rattle.locator.proofs.Written.{length_most}
use Rattle.link_draft.specs.Checks.{check_locator_fields, check_locator_rule}
use Rattle.link_draft.specs.Lengths.{locator_size}
use Rattle.link_checker.specs.Stages.{locator_checked}
use borrow.Author.Rules.{rules}
use Rattle.link_checker.proofs.check_locator.Goals as goal

pub returns-in-None : goal.returns-in-None
unfolding locator_checked check_locator_fields check_locator_rule locator_size
returns-in-None c = rw c.in-None.is (search rules)

pub returns-in-Some : goal.returns-in-Some
unfolding locator_checked check_locator_fields check_locator_rule locator_size
returns-in-Some c =
    let check-fields = c.check_fields in
    let locator = c.in-Some.is in
    rw locator (rw (c.length_of.ensures, c.check_windows.ensures, check-fields.ensures), rw c.length_of.ensures (length_most _))
