-- What is checked before a section with no links is made, of a header and a descriptor loop that are handed in: refusals 38, 22 and 25, in this order.
-- Assumes nothing.
use Rattle.std.specs.Prelude.{ℕ, ◌+◌, ◌≤◌, ◌<◌, List, length}
use Rattle.length_field.specs.Lengths.{Block}
use Rattle.field.specs.Fields.{loop_length, loop_length_reserved, check_field}
use Rattle.section_header.specs.Checks.{check_header, narrowed}
use Rattle.wire.specs.Verdict.{◌▷◌, Verdict}
use Rattle.link.specs.Records.{range_of}
use Rattle.link.specs.declared.Range.{Range}
use Rattle.link_draft.specs.Checks.{check_range}
use Rattle.rct.specs.declared.RctHeader.{RctHeader}

-- ---- 38 and 22 of the header (section_header), then 22 of the loop: a field above its widest number, lowest rank first

-- ranks 23 and 24, behind the header's 20 to 22
unfoldable pub check_loop : ℕ → Range → Verdict
check_loop beside d = check_field loop_length d.length ▷ check_field loop_length_reserved beside

-- ---- and 25: the descriptors are a range of the text t

unfoldable pub check_making : RctHeader → ℕ → ℕ → Range → Verdict
check_making h beside have d = check_header h.section ▷ check_loop beside d ▷ check_range have d

-- what is written of any header: each narrow field by its lowest bits
abbrev pub narrowed_header : RctHeader → RctHeader
narrowed_header h = record { section = narrowed h.section; year_offset = h.year_offset }

-- ---- the descriptor loop

abbrev pub loop_of : ℕ → List ℕ → Range → Block
loop_of beside t d = record { beside = beside; body = range_of t d }

-- ---- what 22 and 25 say of the loop

pub record LoopNarrow (beside : ℕ) (t : List ℕ) (d : Range) : Type 0 where
  pub short : d.length ≤ loop_length.widest
  pub narrow : beside ≤ loop_length_reserved.widest
  pub within : d.start + d.length ≤ length t

-- ---- what the types say of a header besides

pub record HeaderCarried (h : RctHeader) : Type 0 where
  pub extension : h.section.table_id_extension < 65536
  pub number : h.section.section_number < 256
  pub last : h.section.last_section_number < 256
  pub year : h.year_offset < 65536
