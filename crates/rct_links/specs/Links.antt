-- The answers of link by number and item by number.
-- Assumes nothing.
use Rattle.std.specs.Prelude.{ℕ, ◌+◌, List, Result}
use Rattle.length_field.specs.Lengths.{beside_at}
use Rattle.wire.specs.Verdict.{◌▷◌}
use Rattle.link.specs.Records.{info_at}
use Rattle.link.specs.Answers.{link_answer, item_row, item_answer, item_in}
use Rattle.link.specs.declared.LinkInfo.{LinkInfo}
use Rattle.rct.specs.Reading.{body_in, link_place}
use Rattle.rct_bodies.specs.Bodies.{link_rows, body_place, body_of}
use Rattle.link.specs.declared.LinkItem.{LinkItem}
use Rattle.wire.specs.declared.verdict.Refusal.{Refusal}

-- the record of the entry at p, its ranges counted from the section's first byte
abbrev pub entry_info : List ℕ → ℕ → LinkInfo
entry_info xs p = info_at (p + 2) (beside_at xs p) (body_in xs p)

unfoldable pub numbered_link : List ℕ → ℕ → Result LinkInfo Refusal
numbered_link xs k = link_answer (link_rows xs k) (entry_info xs (link_place xs k))

-- item i of link k: 21 again, with the item's number and the items' count
unfoldable pub numbered_item : List ℕ → ℕ → ℕ → Result LinkItem Refusal
numbered_item xs k i = item_answer (link_rows xs k ▷ item_row (body_of xs k) i) (item_in (body_place xs k) (body_of xs k) i)
