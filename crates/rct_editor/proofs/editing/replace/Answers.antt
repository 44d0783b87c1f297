use mathlib.Core.Path.{ap, ◌∙◌}
use Rattle.edit_answers.specs.Answers.{edited_by}
use Rattle.rct_edit.proofs.Placed.{replacing-edited}
use borrow.Author.Rules.{rules}
use Rattle.rct_editor.proofs.editing.replace.Goals as goal

pub returns : goal.returns
returns c =
    record { value = c.edited.ensures ∙ ap edited_by c.replace_placed-put.ensures.value ∙ replacing-edited _ _ _ _; b_after = c.replace_placed-put.ensures.b_after }
