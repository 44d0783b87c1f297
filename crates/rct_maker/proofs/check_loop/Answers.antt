use Rattle.rct_edit.specs.Making.{check_loop}
use borrow.Author.Rules.{rules}
use Rattle.rct_maker.proofs.check_loop.Goals as goal

pub returns : goal.returns
unfolding check_loop
returns c =
    let check = c.check in
    rw (c.first_of.ensures, c.check-2.ensures, check.ensures)
