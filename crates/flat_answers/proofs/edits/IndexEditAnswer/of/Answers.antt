use Rattle.flat_answers.specs.Edits.{index_edit_answer}
use Rattle.flat_answers.proofs.edits.IndexEditAnswer.of.Goals as goal

pub returns : goal.returns
unfolding index_edit_answer
returns c = rw (← c.of-edit.ensures)
