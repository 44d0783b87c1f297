-- Bytes 1 to 7 of a section of any table as they are read: what they stand for, a total function of the bytes.
-- Assumes nothing.
use Rattle.std.specs.Prelude.{ℕ, ◌/◌, ◌%◌, Bool, false, List, eqb, get_or}
use Rattle.wire.specs.Numbers.{be16}
use Rattle.length_field.specs.Lengths.{beside_at}
use Rattle.field.specs.Fields.{low, section_reserved, version_number, version_reserved}
use Rattle.section_header.specs.Syntax.{header_of}
use Rattle.section_header.specs.declared.SectionHeader.{SectionHeader}

-- section_syntax_indicator, the first bit of byte 1
abbrev pub syntax_indicator : ℕ → Bool
syntax_indicator b1 = eqb (b1 / 128) 1

abbrev pub header_at : List ℕ → SectionHeader
header_at xs =
    header_of (syntax_indicator (get_or xs 1 0)) (eqb (beside_at xs 1 / 4 % 2) 1) (low section_reserved (beside_at xs 1)) (be16 xs 3)
    (low version_reserved (get_or xs 5 0 / 64)) (low version_number (get_or xs 5 0 / 2)) (eqb (get_or xs 5 0 % 2) 1)
    (get_or xs 6 0) (get_or xs 7 0)

-- the header of nothing
abbrev pub no_header : SectionHeader
no_header = header_of false false 0 0 0 0 false 0 0
