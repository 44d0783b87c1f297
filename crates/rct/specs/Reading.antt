-- The related content section as it is read: the records that bytes stand for, total functions of the bytes, and the verdict on the bytes, the rows of docs/REFUSALS.md in reading order.
-- Assumes nothing.
use Rattle.std.specs.Prelude.{ℕ, zero, suc, ◌+◌, List, [], ◌∷◌, get_or}
use Rattle.wire.specs.Lists.{part}
use Rattle.wire.specs.Numbers.{be16}
use Rattle.length_field.specs.Lengths.{length_at, beside_at, block_at, block_end, block_verdict, last_verdict}
use Rattle.wire.specs.Refusals.{entry_cut, link_too_long, loop_cut, loop_too_long, section_slack}
use Rattle.wire.specs.Verdict.{counted_row, ◌▷◌, Fine, Verdict}
use Rattle.link.specs.Syntax.{Link}
use Rattle.link.specs.Reading.{body_verdict, link_at}
use Rattle.section_header.specs.Reading.{header_at}
use Rattle.frame.specs.Reading.{payload_end, plain_demands, reading_by, checked_by}
use Rattle.frame.specs.declared.Demands.{Demands}
use Rattle.rct.specs.declared.RctHeader.{RctHeader}
use Rattle.rct.specs.Syntax.{year_place, link_count_place, head_length, rct, Section}

-- ---- the records

abbrev pub rct_header_at : List ℕ → RctHeader
rct_header_at xs = record { section = header_at xs; year_offset = be16 xs year_place }

-- the number of links
abbrev pub count_at : List ℕ → ℕ
count_at xs = get_or xs link_count_place 0

-- the body of the link that stands at p, and the link
abbrev pub body_in : List ℕ → ℕ → List ℕ
body_in xs p = part xs (p + 2) (length_at xs p)

abbrev pub link_in : List ℕ → ℕ → Link
link_in xs p = link_at (beside_at xs p) (body_in xs p)

-- the place behind n links, the first of which stands at p
abbrev pub after : ℕ → List ℕ → ℕ → ℕ
after zero xs p = p
after (suc n) xs p = after n xs (block_end xs p)

-- the n links from p on
abbrev pub links_at : ℕ → List ℕ → ℕ → List Link
links_at zero xs p = []
links_at (suc n) xs p = link_in xs p ∷ links_at n xs (block_end xs p)

-- the places of link k and of the descriptor loop
abbrev pub link_place : List ℕ → ℕ → ℕ
link_place xs k = after k xs head_length

abbrev pub loop_place : List ℕ → ℕ
loop_place xs = link_place xs (count_at xs)

unfoldable pub section_at : List ℕ → Section
section_at xs = record { header = rct_header_at xs; links = links_at (count_at xs) xs head_length; loop = block_at xs (loop_place xs) }

-- ---- the verdict

-- the entry at p of a payload that ends at e: its length field and its length, then its body
abbrev pub entry_rows : List ℕ → ℕ → ℕ → Verdict
entry_rows = block_verdict entry_cut link_too_long

unfoldable pub entry_verdict : List ℕ → ℕ → ℕ → Verdict
entry_verdict xs e p = entry_rows xs e p ▷ body_verdict (body_in xs p)

-- n links from p on
abbrev pub links_verdict : ℕ → List ℕ → ℕ → ℕ → Verdict
links_verdict zero xs e p = Fine
links_verdict (suc n) xs e p = entry_verdict xs e p ▷ links_verdict n xs e (block_end xs p)

-- the descriptor loop at p, which ends the payload
abbrev pub loop_verdict : List ℕ → ℕ → ℕ → Verdict
loop_verdict = last_verdict loop_cut loop_too_long section_slack

-- the links, then the loop
unfoldable pub payload_verdict : List ℕ → Verdict
payload_verdict xs = links_verdict (count_at xs) xs (payload_end xs) head_length ▷ loop_verdict xs (payload_end xs) (loop_place xs)

-- the reading of a section, by what is demanded of it: what stands in front, then the payload
abbrev pub reading : Demands → List ℕ → Verdict
reading = reading_by rct payload_verdict

abbrev pub plain : List ℕ → Verdict
plain = reading plain_demands

-- there is no link k: with the number and the count
unfoldable pub number_row : List ℕ → ℕ → Verdict
number_row xs k = counted_row (count_at xs) k

-- the checked reading: by its own demands, then the CRC
abbrev pub checked : List ℕ → Verdict
checked = checked_by rct payload_verdict
