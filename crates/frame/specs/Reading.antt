-- A section of any table as it is read: what its first bytes stand for, total functions of the bytes, and the verdict on them, row by row in reading order.
-- Assumes nothing.
use Rattle.std.specs.Prelude.{ℕ, ◌+◌, ◌-◌, Bool, true, false, not, ◌&&◌, List, ltb, eqb, length, get_or, take}
use Rattle.wire.specs.Numbers.{be32}
use Rattle.length_field.specs.Lengths.{longest, length_of, length_at}
use Rattle.wire.specs.Refusals.{too_short, wrong_length, wrong_crc, section_too_long, no_syntax_indicator}
use Rattle.wire.specs.Verdict.{refuse, ◌▷◌, Verdict}
use Rattle.crc.specs.Crc.{crc_of}
use Rattle.section_header.specs.Reading.{syntax_indicator}
use Rattle.frame.specs.Syntax.{uncounted, crc_length, limit, least}
use Rattle.frame.specs.declared.Table.{Table}
use Rattle.frame.specs.declared.Demands.{Demands}

-- ---- the lengths

-- the bytes of a whole section, of its bytes 1 and 2
abbrev pub total_in : ℕ → ℕ → ℕ
total_in hi lo = uncounted + length_of hi lo

-- of the section at the front of a list: section_length, the bytes of the whole, the place of the CRC
abbrev pub declared : List ℕ → ℕ
declared xs = length_at xs 1

abbrev pub total_of : List ℕ → ℕ
total_of xs = uncounted + declared xs

abbrev pub payload_end : List ℕ → ℕ
payload_end xs = total_of xs - crc_length

-- ---- the verdicts

-- what a reading demands of a section besides its syntax: the plain one takes either indicator and every length that the field
-- holds, the checked one no more than is written
abbrev pub plain_demands : Demands
plain_demands = record { indicator = false; most = longest }

abbrev pub checked_demands : Demands
checked_demands = record { indicator = true; most = limit }

-- the indicator is demanded, and byte 1 does not have it
abbrev pub unindicated : Demands → ℕ → Bool
unindicated d b1 = d.indicator && not (syntax_indicator b1)

-- 38: with byte 1, and 0
abbrev pub indicator_row : Demands → List ℕ → Verdict
indicator_row d xs = refuse (unindicated d (get_or xs 1 0)) no_syntax_indicator (get_or xs 1 0) 0

-- what stands in front, for a table and for what a reading demands
unfoldable pub opened : Table → Demands → List ℕ → Verdict
opened t d xs =
    refuse (ltb (length xs) (least t)) too_short (least t) (length xs)
    ▷ refuse (not (eqb (get_or xs 0 0) t.id)) t.other t.id (get_or xs 0 0)
    ▷ indicator_row d xs
    ▷ refuse (ltb (total_of xs) (least t)) wrong_length (declared xs) (length xs)
    ▷ refuse (ltb (length xs) (total_of xs)) wrong_length (declared xs) (length xs)
    ▷ refuse (ltb d.most (declared xs)) section_too_long (declared xs) d.most

-- the CRC that is stored at e, and that of the bytes before it
abbrev pub stored_at : List ℕ → ℕ → ℕ
stored_at xs e = be32 xs e

unfoldable pub computed_at : List ℕ → ℕ → ℕ
computed_at xs e = crc_of (take e xs)

abbrev pub stored : List ℕ → ℕ
stored xs = stored_at xs (payload_end xs)

abbrev pub computed : List ℕ → ℕ
computed xs = computed_at xs (payload_end xs)

-- the checked reading's last row
unfoldable pub crc_row : List ℕ → ℕ → Verdict
crc_row xs e = refuse (not (eqb (stored_at xs e) (computed_at xs e))) wrong_crc (stored_at xs e) (computed_at xs e)

-- ---- the readings of a table, by its own rows, those of what stands behind the opening

-- by what is demanded of the section
unfoldable pub reading_by : Table → (List ℕ → Verdict) → Demands → List ℕ → Verdict
reading_by t rows d xs = opened t d xs ▷ rows xs

-- the checked reading: then the CRC
unfoldable pub checked_by : Table → (List ℕ → Verdict) → List ℕ → Verdict
checked_by t rows xs = reading_by t rows checked_demands xs ▷ crc_row xs (payload_end xs)
