use Rattle.edit_answers.specs.Answers.{spliced_by}
use Rattle.wire.proofs.Verdicts.{handed-on}
use mathlib.Core.Path.{◌∙◌}
use Rattle.edit_answers.proofs.Spliced.of.Goals as goal

pub returns : goal.returns
unfolding spliced_by
returns c = rw c.in_ok-total.was

pub returns-in_err-total : goal.returns-in_err-total
unfolding spliced_by
returns-in_err-total c = handed-on _ _ c.from_residual.ensures ∙ rw c.in_err-total.was
