-- Sections of both tables as numbers, and the header that numbers stand for.
-- Assumes nothing.
use Rattle.wire.specs.Choice.{bit}
use Rattle.spans.specs.Spans.{span}
use Rattle.wire.specs.declared.verdict.Refusal.{Refusal}
use Rattle.link.specs.Records.{no_range}
use Rattle.section_header.specs.Reading.{no_header}
use Rattle.section_header.specs.Syntax as syntax
use Rattle.section_header.specs.declared.SectionHeader.{SectionHeader}
use Rattle.rct.specs.declared.RctHeader.{RctHeader}
use Rattle.rct_reader.specs.declared.RctSection.{RctSection}
use Rattle.rnt_reader.specs.declared.RntSection.{RntSection}
use Rattle.flat_locator.specs.Flags.{is_set}
use Rattle.flat_refusal.specs.Refusals.{no_refusal}
use Rattle.flat_sections.specs.declared.FlatHeader.{FlatHeader}
use Rattle.flat_sections.specs.declared.FlatRctHeader.{FlatRctHeader}
use Rattle.flat_sections.specs.declared.RctAnswer.{RctAnswer}
use Rattle.flat_sections.specs.declared.RntAnswer.{RntAnswer}
use Rattle.std.specs.Prelude.{Err, Ok, Result}

-- ---- headers

unfoldable pub header_flat : SectionHeader → FlatHeader
header_flat h =
    record {
      section_syntax_indicator = bit h.section_syntax_indicator;
      private_indicator = bit h.private_indicator;
      reserved_b1 = h.reserved_b1;
      table_id_extension = h.table_id_extension;
      reserved_b5 = h.reserved_b5;
      version_number = h.version_number;
      current_next_indicator = bit h.current_next_indicator;
      section_number = h.section_number;
      last_section_number = h.last_section_number;
    }

unfoldable pub header_of : FlatHeader → SectionHeader
header_of f =
    syntax.header_of (is_set f.section_syntax_indicator) (is_set f.private_indicator) f.reserved_b1 f.table_id_extension
    f.reserved_b5 f.version_number (is_set f.current_next_indicator) f.section_number f.last_section_number

abbrev pub rct_header_flat : RctHeader → FlatRctHeader
rct_header_flat h = record { section = header_flat h.section; year_offset = h.year_offset }

abbrev pub rct_header_of : FlatRctHeader → RctHeader
rct_header_of f = record { section = header_of f.section; year_offset = f.year_offset }

-- ---- sections

abbrev pub no_related : RctSection
no_related =
    record {
      total = 0;
      header = record { section = no_header; year_offset = 0 };
      number_of_links = 0;
      reserved_descriptor_loop_length = 0;
      descriptors = no_range;
    }

unfoldable pub rct_numbers : Refusal → RctSection → RctAnswer
rct_numbers r s =
    record {
      refusal = r;
      total = s.total;
      header = rct_header_flat s.header;
      number_of_links = s.number_of_links;
      reserved_descriptor_loop_length = s.reserved_descriptor_loop_length;
      descriptors = s.descriptors;
    }

unfoldable pub rct_answer : Result RctSection Refusal → RctAnswer
rct_answer (Ok s) = rct_numbers no_refusal s
rct_answer (Err r) = rct_numbers r no_related

abbrev pub no_resolution : RntSection
no_resolution =
    record {
      total = 0;
      header = record { section = no_header; context_id_type = 0 };
      reserved_common_descriptors_length = 0;
      common_descriptors = span 0 0;
      number_of_providers = 0;
    }

unfoldable pub rnt_numbers : Refusal → RntSection → RntAnswer
rnt_numbers r s =
    record {
      refusal = r;
      total = s.total;
      header = header_flat s.header.section;
      context_id_type = s.header.context_id_type;
      reserved_common_descriptors_length = s.reserved_common_descriptors_length;
      common_descriptors = s.common_descriptors;
      number_of_providers = s.number_of_providers;
    }

unfoldable pub rnt_answer : Result RntSection Refusal → RntAnswer
rnt_answer (Ok s) = rnt_numbers no_refusal s
rnt_answer (Err r) = rnt_numbers r no_resolution
