use Rattle.flat_answers.specs.Edits.{edit_answer}
use Rattle.flat_answers.proofs.edits.EditAnswer.of.Goals as goal

pub returns-in-Ok : goal.returns-in-Ok
unfolding edit_answer
returns-in-Ok c = rw (c.in-Ok.is, c.fine.ensures)

pub returns-in-Err : goal.returns-in-Err
unfolding edit_answer
returns-in-Err c = rw c.in-Err.is
