-- Edits and indexes as numbers.
-- Assumes nothing.
use Rattle.std.specs.Prelude.{ℕ, Err, Ok, Result}
use Rattle.rct_index.specs.Index.{no_index}
use Rattle.rct_index.specs.declared.RctIndex.{RctIndex}
use Rattle.rct_index.specs.declared.IndexEdited.{IndexEdited}
use Rattle.flat_refusal.specs.Refusals.{no_refusal}
use Rattle.flat_answers.specs.declared.edits.EditAnswer.{EditAnswer}
use Rattle.flat_answers.specs.declared.edits.IndexAnswer.{IndexAnswer}
use Rattle.flat_answers.specs.declared.edits.IndexEditAnswer.{IndexEditAnswer}
use Rattle.wire.specs.declared.verdict.Refusal.{Refusal}

unfoldable pub edit_answer : Result ℕ Refusal → EditAnswer
edit_answer (Ok n) = record { refusal = no_refusal; total = n }
edit_answer (Err r) = record { refusal = r; total = 0 }

unfoldable pub index_answer : Result RctIndex Refusal → IndexAnswer
index_answer (Ok i) = record { refusal = no_refusal; index = i }
index_answer (Err r) = record { refusal = r; index = no_index }

unfoldable pub index_edit_answer : IndexEdited → IndexEditAnswer
index_edit_answer e = record { refusal = (edit_answer e.edited).refusal; total = (edit_answer e.edited).total; index = e.index }
