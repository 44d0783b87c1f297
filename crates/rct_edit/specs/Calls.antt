-- Making a section with no links, appending a link and replacing link k, of what the calls are handed: the outcomes of the records, with the verdict on their own checks.
-- Assumes nothing.
use Rattle.std.specs.Prelude.{ℕ, List, length, Result}
use Rattle.link.specs.Records.{link_of}
use Rattle.link.specs.declared.LinkInfo.{LinkInfo}
use Rattle.link.specs.declared.Range.{Range}
use Rattle.link_draft.specs.Checks.{check_link}
use Rattle.rct.specs.declared.RctHeader.{RctHeader}
use Rattle.rct.specs.Syntax.{Section, full_length, entry_place}
use Rattle.rct.specs.Reading.{section_at}
use Rattle.rct_edit.specs.Edit.{bare, Outcome, made, appended, replaced}
use Rattle.rct_edit.specs.Making.{check_making, loop_of}
use Rattle.rct_edit.specs.Answers.{answer}
use Rattle.edit_answers.specs.Answers.{spliced_by}
use Rattle.edit_answers.specs.declared.Spliced.{Spliced}
use Rattle.wire.specs.declared.verdict.Refusal.{Refusal}

unfoldable pub making : List ℕ → RctHeader → ℕ → List ℕ → Range → Outcome
making xs h beside t d = made xs (check_making h beside (length t) d) (bare h (loop_of beside t d))

unfoldable pub appending : List ℕ → List ℕ → LinkInfo → Outcome
appending xs t i = appended xs (check_link t i) (link_of t i)

unfoldable pub replacing : List ℕ → ℕ → List ℕ → LinkInfo → Outcome
replacing xs k t i = replaced xs k (check_link t i) (link_of t i)

-- what an edit of the section s at number k answers to whoever keeps places of it
abbrev pub placed : Outcome → Section → ℕ → Result Spliced Refusal
placed o s k = spliced_by (answer o) (full_length s) (length s.links) (entry_place s k)

unfoldable pub appending_placed : List ℕ → List ℕ → LinkInfo → Result Spliced Refusal
appending_placed xs t i = placed (appending xs t i) (section_at xs) (length (section_at xs).links)

unfoldable pub replacing_placed : List ℕ → ℕ → List ℕ → LinkInfo → Result Spliced Refusal
replacing_placed xs k t i = placed (replacing xs k t i) (section_at xs) k
