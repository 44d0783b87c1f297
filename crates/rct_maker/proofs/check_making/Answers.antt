use Rattle.rct_edit.specs.Making.{check_making}
use borrow.Author.Rules.{rules}
use Rattle.rct_maker.proofs.check_making.Goals as goal

pub returns : goal.returns
unfolding check_making
returns c =
    let check-header = c.check_header-first in
    let check-range = c.check_range in
    let check-loop = c.check_loop in
    rw (c.first_of.ensures, check-header.ensures, c.first_of-later.ensures, check-range.ensures, check-loop.ensures)
