-- The related content section as it is written (ETSI TS 102 323, 10.4.2, Table 109): records, the bytes that they are written as, and which records have such bytes. Nothing here reads.
-- Assumes nothing.
use Rattle.std.specs.Prelude.{ℕ, ◌+◌, ◌-◌, ◌≤◌, ◌<◌, Bool, List, [], ◌∷◌, ◌++◌, length, take}
use Rattle.wire.specs.Numbers.{bytes16}
use Rattle.length_field.specs.Lengths.{longest, Block, BlockFits, block_bytes}
use Rattle.wire.specs.Refusals.{not_rct}
use Rattle.link.specs.Syntax.{Link, LinkFits, link_body, entry_of}
use Rattle.section_header.specs.Syntax.{front_length, header_bytes, HeaderFits, new_header}
use Rattle.frame.specs.Syntax.{uncounted, crc_length, with_crc, Indicated}
use Rattle.frame.specs.declared.Demands.{Demands}
use Rattle.frame.specs.declared.Table.{Table}
use Rattle.rct.specs.declared.RctHeader.{RctHeader}

-- ---- the numbers that the table states

abbrev pub table_id : ℕ
table_id = 0x76

-- the places of year_offset and of link_count, and the bytes before the first link
abbrev pub year_place : ℕ
year_place = front_length

abbrev pub link_count_place : ℕ
link_count_place = year_place + 2

abbrev pub head_length : ℕ
head_length = link_count_place + 1

-- the smallest section_length
abbrev pub shortest : ℕ
shortest = 14

-- the table; a section of another is refused by its table_id
abbrev pub rct : Table
rct = record { id = table_id; shortest = shortest; other = not_rct }

-- ---- the records

pub record Section : Type 0 where
  pub header : RctHeader
  pub links : List Link
  pub loop : Block

-- the header of a new section: the syntax indicator set, ones in the reserved bits
abbrev pub new_rct_header : Bool → ℕ → ℕ → Bool → ℕ → ℕ → ℕ → RctHeader
new_rct_header flag service version current number last year =
    record { section = new_header flag service version current number last; year_offset = year }

-- ---- the bytes

-- table_id 8, bytes 1 to 7, year_offset 16, link_count 8
unfoldable pub head_bytes : RctHeader → ℕ → ℕ → List ℕ
head_bytes h len count = table_id ∷ header_bytes h.section len ++ bytes16 h.year_offset ++ count ∷ []

-- link_info after link_info, each behind four bits and its length
abbrev pub links_bytes : List Link → List ℕ
links_bytes [] = []
links_bytes (l ∷ ls) = block_bytes (entry_of l) ++ links_bytes ls

-- what stands between the header and the CRC: the links, then the descriptor loop behind four bits and its length
unfoldable pub payload : Section → List ℕ
payload s = links_bytes s.links ++ block_bytes s.loop

-- the place of link k's entry: behind the head and the links before it; at the number of links, where the next one would go
abbrev pub entry_place : Section → ℕ → ℕ
entry_place s k = head_length + length (links_bytes (take k s.links))

-- section_length counts from behind itself to the end of the CRC
unfoldable pub section_length : Section → ℕ
section_length s = (head_length - uncounted) + length (payload s) + crc_length

-- the bytes of the whole section
abbrev pub full_length : Section → ℕ
full_length s = uncounted + section_length s

-- the section without its CRC, and with it
unfoldable pub section_bytes : Section → List ℕ
section_bytes s = head_bytes s.header (section_length s) (length s.links) ++ payload s

unfoldable pub sealed : Section → List ℕ
sealed s = with_crc (section_bytes s)

-- ---- which records have bytes: each number is within its field

pub record RctHeaderFits (h : RctHeader) : Type 0 where
  pub section : HeaderFits h.section
  pub year : h.year_offset < 65536

-- a link, and a body that its length field can tell the length of
pub record EntryFits (l : Link) : Type 0 where
  pub link : LinkFits l
  pub short : length (link_body l) ≤ longest

abbrev pub LinksFit : List Link → Type 0
LinksFit [] = Unit {0}
LinksFit (l ∷ ls) = EntryFits l × LinksFit ls

pub record Fits (d : Demands) (s : Section) : Type 0 where
  pub header : RctHeaderFits s.header
  pub count : length s.links < 256
  pub links : LinksFit s.links
  pub loop : BlockFits s.loop
  pub indicated : Indicated d s.header.section
  pub fits : section_length s ≤ d.most
