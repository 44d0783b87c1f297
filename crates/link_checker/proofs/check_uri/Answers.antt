use Rattle.link_draft.specs.Checks.{check_uri, check_uri_range}
use Rattle.link_draft.specs.Lengths.{uri_size}
use Rattle.link_checker.specs.Stages.{uri_checked}
use borrow.Author.Rules.{rules}
use Rattle.link_checker.proofs.check_uri.Goals as goal

pub returns-in-None : goal.returns-in-None
unfolding uri_checked check_uri check_uri_range uri_size
returns-in-None c = rw (c.in-None.is, c.none.ensures) (search rules)

pub returns-in-Some : goal.returns-in-Some
unfolding uri_checked check_uri check_uri_range uri_size
returns-in-Some c =
    rw c.in-Some.is c.check_ranged.ensures
