use borrow.Author.Rules.{rules}
use Rattle.link_checker.proofs.RangesChecked.joined.Goals as goal

pub returns : goal.returns
returns c =
    let first-of2 = c.first_of-2 in
    let first = c.first_of.ensures in
    rw (first-of2.ensures, first)
