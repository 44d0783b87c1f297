use Rattle.flat_answers.specs.Links.{item_answer}
use borrow.Author.Rules.{rules}
use Rattle.flat_answers.proofs.links.ItemAnswer.of.Goals as goal

pub returns-in-Ok : goal.returns-in-Ok
unfolding item_answer
returns-in-Ok c = rw (c.in-Ok.is, c.fine.ensures)

pub returns-in-Err : goal.returns-in-Err
unfolding item_answer
returns-in-Err c = rw (c.in-Err.is, c.none.ensures)
