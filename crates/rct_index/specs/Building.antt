-- Building an index: the plain reading's refusals, then 39 if a descriptor of the section's loop is cut off.
-- Assumes nothing.
use Rattle.std.specs.Prelude.{ℕ, ◌+◌, List, length, Err, Ok, Result}
use Rattle.wire.specs.Verdict.{◌▷◌, Verdict}
use Rattle.wire.specs.declared.verdict.Refusal.{Refusal}
use Rattle.descriptors.specs.Reading.{cut_verdict}
use Rattle.rct.specs.Syntax.{Section, entry_place}
use Rattle.rct.specs.Reading.{section_at, plain}
use Rattle.rct_index.specs.Index.{index_of}
use Rattle.rct_index.specs.declared.RctIndex.{RctIndex}

-- the first descriptor of the loop stands behind the links and the loop's length
abbrev pub descriptor_place : Section → ℕ
descriptor_place s = entry_place s (length s.links) + 2

unfoldable pub loop_rows : Section → Verdict
loop_rows s = cut_verdict (descriptor_place s) s.loop.body

unfoldable pub build_verdict : List ℕ → Verdict
build_verdict xs = plain xs ▷ loop_rows (section_at xs)

-- the index, or a refusal
unfoldable pub built : Verdict → RctIndex → Result RctIndex Refusal
built (Ok _) i = Ok i
built (Err r) i = Err r

unfoldable pub building : List ℕ → Result RctIndex Refusal
building xs = built (build_verdict xs) (index_of (section_at xs))
