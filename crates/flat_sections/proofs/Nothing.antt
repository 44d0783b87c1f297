-- What stands beside a refusal, spelt out: total 0 and zeros.
-- Assumes nothing.
use mathlib.Core.Path.{◌≡◌, refl}
use Rattle.wire.specs.declared.verdict.Refusal.{Refusal}
use Rattle.flat_sections.specs.Sections.{header_flat, rct_numbers, rct_answer}
use Rattle.flat_sections.specs.declared.FlatHeader.{FlatHeader}
use Rattle.flat_sections.specs.declared.RctAnswer.{RctAnswer}
use Rattle.std.specs.Prelude.{Err}

abbrev zero_flat : FlatHeader
zero_flat =
    record {
      section_syntax_indicator = 0;
      private_indicator = 0;
      reserved_b1 = 0;
      table_id_extension = 0;
      reserved_b5 = 0;
      version_number = 0;
      current_next_indicator = 0;
      section_number = 0;
      last_section_number = 0;
    }

abbrev pub refused_answer : Refusal → RctAnswer
refused_answer r =
    record {
      refusal = r;
      total = 0;
      header = record { section = zero_flat; year_offset = 0 };
      number_of_links = 0;
      reserved_descriptor_loop_length = 0;
      descriptors = record { start = 0; length = 0 };
    }

pub refused-zeros : (r : Refusal) → rct_answer (Err r) ≡ refused_answer r
unfolding rct_answer rct_numbers header_flat
refused-zeros r = refl
