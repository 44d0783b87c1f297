use Rattle.flat_answers.specs.Links.{link_answer}
use borrow.Author.Rules.{rules}
use Rattle.flat_answers.proofs.links.LinkAnswer.of.Goals as goal

pub returns-in-Ok : goal.returns-in-Ok
unfolding link_answer
returns-in-Ok c = rw (c.in-Ok.is, c.fine.ensures, c.of.ensures)

pub returns-in-Err : goal.returns-in-Err
unfolding link_answer
returns-in-Err c = rw (c.in-Err.is, c.of-in-Err.ensures, c.none.ensures)
