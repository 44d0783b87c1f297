use mathlib.Core.Path.{ap, ◌∙◌}
use Rattle.edit_answers.specs.Answers.{edited_by}
use Rattle.rct_edit.proofs.Placed.{appending-edited}
use borrow.Author.Rules.{rules}
use Rattle.rct_editor.proofs.editing.append.Goals as goal

pub returns : goal.returns
returns c =
    record { value = c.edited.ensures ∙ ap edited_by c.append_placed-put.ensures.value ∙ appending-edited _ _ _; b_after = c.append_placed-put.ensures.b_after }
