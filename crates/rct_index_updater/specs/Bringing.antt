-- What an index becomes by what an edit at one of its links answered.
-- Assumes nothing.
use Rattle.std.specs.Prelude.{ℕ, Bool, ◌&&◌, ltb, leb, Err, Ok, Result}
use Rattle.wire.specs.Choice.{pick}
use Rattle.rct_edit.specs.Edit.{most_links}
use Rattle.rct_index.specs.Editing.{turns, told_anew}
use Rattle.rct_index.specs.declared.LinkMarks.{LinkMarks}
use Rattle.rct_index.specs.declared.RctIndex.{RctIndex}
use Rattle.edit_answers.specs.declared.Spliced.{Spliced}
use Rattle.wire.specs.declared.verdict.Refusal.{Refusal}

-- link k of n, or the next one, stands at q of a section that was old bytes long and is new
abbrev pub are_numbers : ℕ → ℕ → ℕ → ℕ → ℕ → Bool
are_numbers k n q old new = ltb k most_links && (leb n most_links && (ltb q turns && (leb old turns && leb new turns)))

-- the index i as an edit at link k left it, of which m is told now: numbers of no edit tell nothing
unfoldable pub anew_by : RctIndex → ℕ → Result Spliced Refusal → LinkMarks → RctIndex
anew_by i k (Ok done) m = pick (are_numbers k done.count done.at done.before done.total) (told_anew i k done.count done.at done.before done.total m) i
anew_by i k (Err r) m = i

-- the number of a link that was appended
unfoldable pub last_of : Result Spliced Refusal → ℕ
last_of (Ok done) = done.count
last_of (Err r) = 0
