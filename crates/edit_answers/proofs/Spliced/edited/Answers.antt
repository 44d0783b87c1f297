use Rattle.edit_answers.specs.Answers.{edited_by}
use Rattle.wire.proofs.Verdicts.{handed-on}
use mathlib.Core.Path.{◌∙◌}
use Rattle.edit_answers.proofs.Spliced.edited.Goals as goal

pub returns : goal.returns
unfolding edited_by
returns c = rw c.in_ok-put.was

pub returns-in_err-put : goal.returns-in_err-put
unfolding edited_by
returns-in_err-put c = handed-on _ _ c.from_residual.ensures ∙ rw c.in_err-put.was
