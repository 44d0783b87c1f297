-- What is checked of a section's header before it is written: 38 (0, 0) where the syntax indicator is not set, since such a section has
-- neither bytes 3 to 7 nor a CRC (ISO/IEC 13818-1, 2.4.4.11); then 22 of ranks 20 to 22.
-- Assumes nothing.
use Rattle.std.specs.Prelude.{not}
use Rattle.wire.specs.Refusals.{no_syntax_indicator}
use Rattle.wire.specs.Verdict.{refuse, ◌▷◌, Verdict}
use Rattle.field.specs.Fields.{low, section_reserved, version_number, version_reserved, check_field}
use Rattle.section_header.specs.Syntax.{header_of}
use Rattle.section_header.specs.declared.SectionHeader.{SectionHeader}

-- the indicator is set
abbrev pub indicator_row : SectionHeader → Verdict
indicator_row h = refuse (not h.section_syntax_indicator) no_syntax_indicator 0 0

unfoldable pub check_header : SectionHeader → Verdict
check_header h =
    indicator_row h
    ▷ check_field section_reserved h.reserved_b1
    ▷ check_field version_number h.version_number
    ▷ check_field version_reserved h.reserved_b5

-- each narrow field by its lowest bits: what is written of any header, and of one that passes the check the header itself
abbrev pub narrowed : SectionHeader → SectionHeader
narrowed h =
    header_of h.section_syntax_indicator h.private_indicator (low section_reserved h.reserved_b1) h.table_id_extension
    (low version_reserved h.reserved_b5) (low version_number h.version_number) h.current_next_indicator
    h.section_number h.last_section_number
