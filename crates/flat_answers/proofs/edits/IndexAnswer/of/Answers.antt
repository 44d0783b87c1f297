use Rattle.flat_answers.specs.Edits.{index_answer}
use Rattle.flat_answers.proofs.edits.IndexAnswer.of.Goals as goal

pub returns-in-Ok : goal.returns-in-Ok
unfolding index_answer
returns-in-Ok c = rw (c.in-Ok.is, c.fine.ensures)

pub returns-in-Err : goal.returns-in-Err
unfolding index_answer
returns-in-Err c = rw (c.in-Err.is, c.none.ensures)
