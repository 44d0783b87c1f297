use Rattle.flat_answers.specs.Links.{step_answer}
use borrow.Author.Rules.{rules}
use Rattle.flat_answers.proofs.links.StepAnswer.of.Goals as goal

pub returns-in-Ok : goal.returns-in-Ok
unfolding step_answer
returns-in-Ok c = rw (c.in-Ok.is, c.fine.ensures)

pub returns-in-Err : goal.returns-in-Err
unfolding step_answer
returns-in-Err c = rw (c.in-Err.is, c.none.ensures)
