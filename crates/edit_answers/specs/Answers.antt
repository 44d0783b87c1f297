-- What an edit answers: the total of the new section, or the refusal.
-- Assumes nothing.
use Rattle.std.specs.Prelude.{ℕ, Err, Ok, Result}
use Rattle.edit_answers.specs.declared.Spliced.{Spliced}
use Rattle.wire.specs.declared.verdict.Refusal.{Refusal}

abbrev pub spliced_at : ℕ → ℕ → ℕ → ℕ → Result Spliced Refusal
spliced_at total before count at = Ok (record { total = total; before = before; count = count; at = at })

-- the same for whoever keeps places of the section: the totals after and before, the number of links before, the entry's place
unfoldable pub spliced_by : Result ℕ Refusal → ℕ → ℕ → ℕ → Result Spliced Refusal
spliced_by (Ok total) before count at = spliced_at total before count at
spliced_by (Err r) before count at = Err r

unfoldable pub edited_by : Result Spliced Refusal → Result ℕ Refusal
edited_by (Ok done) = Ok done.total
edited_by (Err r) = Err r
