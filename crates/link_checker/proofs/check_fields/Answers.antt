use Rattle.link_draft.specs.Checks.{check_count}
use Rattle.link_checker.specs.Stages.{fields_checked}
use borrow.Author.Rules.{rules}
use Rattle.link_checker.proofs.check_fields.Goals as goal

pub returns : goal.returns
unfolding fields_checked check_count
returns c =
    let first-of6 = c.first_of-4 in
    let five = c.first_of-items in
    let four = c.first_of-3 in
    let three = c.first_of-2 in
    let two = c.first_of-end in
    let one = c.first_of in
    let rank19 = c.narrow-rank19 in
    let rank18 = c.narrow-rank18 in
    let rank15 = c.narrow-rank15 in
    let rank14 = c.check-rank14 in
    let rank1 = c.check_head-rank1 in
    rw (c.first_of-6.ensures, c.first_of-5.ensures, first-of6.ensures, five.ensures, four.ensures, three.ensures, two.ensures, one.ensures, rank19.ensures, rank18.ensures, rank15.ensures, rank14.ensures, rank1.ensures)
