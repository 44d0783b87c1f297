-- Bytes 1 to 7 of a section of any table as they are written (ISO/IEC 13818-1, 2.4.4.10; ETSI TS 102 323, Table 109).
-- Nothing here reads.
-- Assumes nothing.
use Rattle.std.specs.Prelude.{ℕ, ◌+◌, ◌*◌, ◌≤◌, ◌<◌, Bool, true, List, [], ◌∷◌, ◌++◌}
use Rattle.wire.specs.Choice.{bit}
use Rattle.wire.specs.Numbers.{bytes16}
use Rattle.length_field.specs.Lengths.{length_bytes}
use Rattle.field.specs.Fields.{section_reserved, version_number, version_reserved}
use Rattle.section_header.specs.declared.SectionHeader.{SectionHeader}

-- table_id to last_section_number
abbrev pub front_length : ℕ
front_length = 8

-- ---- bytes 1 to 7

-- the four bits before section_length: section_syntax_indicator 1, private_indicator 1, reserved 2
abbrev pub first_bits : SectionHeader → ℕ
first_bits h = bit h.section_syntax_indicator * 8 + bit h.private_indicator * 4 + h.reserved_b1

-- byte 5: reserved 2, version_number 5, current_next_indicator 1
abbrev pub version_byte : SectionHeader → ℕ
version_byte h = h.reserved_b5 * 64 + h.version_number * 2 + bit h.current_next_indicator

-- four bits and section_length 12, table_id_extension 16, byte 5, section_number 8, last_section_number 8
unfoldable pub header_bytes : SectionHeader → ℕ → List ℕ
header_bytes h len =
    length_bytes (first_bits h) len
    ++ bytes16 h.table_id_extension
    ++ version_byte h ∷ h.section_number ∷ h.last_section_number ∷ []

-- which headers have bytes: each number is within its field
pub record HeaderFits (h : SectionHeader) : Type 0 where
  pub reserved1 : h.reserved_b1 ≤ section_reserved.widest
  pub extension : h.table_id_extension < 65536
  pub reserved5 : h.reserved_b5 ≤ version_reserved.widest
  pub version : h.version_number ≤ version_number.widest
  pub number : h.section_number < 256
  pub last : h.last_section_number < 256

-- ---- made of its parts, and with the syntax indicator set and ones in the reserved bits

abbrev pub header_of : Bool → Bool → ℕ → ℕ → ℕ → ℕ → Bool → ℕ → ℕ → SectionHeader
header_of syntax private reserved1 extension reserved5 version current number last =
    record {
      section_syntax_indicator = syntax;
      private_indicator = private;
      reserved_b1 = reserved1;
      table_id_extension = extension;
      reserved_b5 = reserved5;
      version_number = version;
      current_next_indicator = current;
      section_number = number;
      last_section_number = last;
    }

abbrev pub new_header : Bool → ℕ → ℕ → Bool → ℕ → ℕ → SectionHeader
new_header private extension version current number last =
    header_of true private section_reserved.widest extension version_reserved.widest version current number last
