-- The lengths of a section of any table (ISO/IEC 13818-1, 2.4.4.10): table_id, bytes 1 to 7 (section_header), the table's own bytes, and
-- the CRC. Nothing here reads.
-- Assumes nothing.
use Rattle.std.specs.Prelude.{ℕ, ◌+◌, ◌-◌, ◌≡◌, true, List, ◌++◌}
use Rattle.wire.specs.Numbers.{bytes32}
use Rattle.length_field.specs.Lengths.{longest}
use Rattle.crc.specs.Crc.{crc_of}
use Rattle.section_header.specs.declared.SectionHeader.{SectionHeader}
use Rattle.frame.specs.declared.Table.{Table}
use Rattle.frame.specs.declared.Demands.{Demands}

-- ---- the numbers that hold for every table

-- the bytes up to the end of section_length, which it does not count, and those of the CRC, which it does
abbrev pub uncounted : ℕ
uncounted = 3

abbrev pub crc_length : ℕ
crc_length = 4

-- the most bytes that stand before a CRC
abbrev pub longest_payload : ℕ
longest_payload = uncounted + longest - crc_length

-- the greatest section_length that is written, and that a checked reading takes: that of a private section shall not exceed 4093
-- (2.4.4.11), which makes a section of 4,096 bytes. It is not the greatest that the field's 12 bits tell (longest)
abbrev pub limit : ℕ
limit = 4093

-- what a demand says of a section's header: that section_syntax_indicator is set, where it is demanded. ISO/IEC 13818-1, 2.4.4.11, gives
-- a section without it neither bytes 3 to 7 nor a CRC
abbrev pub Indicated : Demands → SectionHeader → Type 0
Indicated d h = d.indicator ≡ true → h.section_syntax_indicator ≡ true

-- the bytes of a table's smallest section
abbrev pub least : Table → ℕ
least t = uncounted + t.shortest

-- bytes with their CRC behind them
abbrev pub with_crc : List ℕ → List ℕ
with_crc bs = bs ++ bytes32 (crc_of bs)
