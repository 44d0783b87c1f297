-- Each number of a section stands under its own name: of answers with fewer numbers their types tell them apart.
-- Assumes nothing.
use mathlib.Core.Path.{◌≡◌, refl}
use Rattle.wire.specs.Choice.{bit}
use Rattle.wire.specs.declared.verdict.Refusal.{Refusal}
use Rattle.section_header.specs.declared.SectionHeader.{SectionHeader}
use Rattle.rct_reader.specs.declared.RctSection.{RctSection}
use Rattle.rnt_reader.specs.declared.RntSection.{RntSection}
use Rattle.flat_refusal.specs.Refusals.{no_refusal, refusal_of}
use Rattle.flat_sections.specs.Sections.{header_flat, no_related, rct_numbers, rct_answer, no_resolution, rnt_numbers, rnt_answer}
use Rattle.flat_sections.specs.declared.FlatHeader.{FlatHeader}
use Rattle.flat_sections.specs.declared.RctAnswer.{RctAnswer}
use Rattle.flat_sections.specs.declared.RntAnswer.{RntAnswer}
use Rattle.std.specs.Prelude.{Err, Ok, Result}
use Rattle.wire.specs.Verdict.{verdict_of}

pub record HeaderNames (h : SectionHeader) (f : FlatHeader) : Type 0 where
  pub syntax : f.section_syntax_indicator ≡ bit h.section_syntax_indicator
  pub private : f.private_indicator ≡ bit h.private_indicator
  pub reserved_1 : f.reserved_b1 ≡ h.reserved_b1
  pub extension : f.table_id_extension ≡ h.table_id_extension
  pub reserved_5 : f.reserved_b5 ≡ h.reserved_b5
  pub version : f.version_number ≡ h.version_number
  pub current : f.current_next_indicator ≡ bit h.current_next_indicator
  pub number : f.section_number ≡ h.section_number
  pub last : f.last_section_number ≡ h.last_section_number

pub header-names : (h : SectionHeader) → HeaderNames h (header_flat h)
unfolding header_flat
header-names h =
    record {
      syntax = refl;
      private = refl;
      reserved_1 = refl;
      extension = refl;
      reserved_5 = refl;
      version = refl;
      current = refl;
      number = refl;
      last = refl;
    }

pub record RctNames (r : Refusal) (s : RctSection) (f : RctAnswer) : Type 0 where
  pub refusal : f.refusal ≡ r
  pub total : f.total ≡ s.total
  pub header : f.header.section ≡ header_flat s.header.section
  pub year : f.header.year_offset ≡ s.header.year_offset
  pub links : f.number_of_links ≡ s.number_of_links
  pub reserved : f.reserved_descriptor_loop_length ≡ s.reserved_descriptor_loop_length
  pub descriptors : f.descriptors ≡ s.descriptors

module _ (r : Refusal) (s : RctSection) where
  rct-numbers : RctNames r s (rct_numbers r s)
  unfolding rct_numbers
  rct-numbers = record { refusal = refl; total = refl; header = refl; year = refl; links = refl; reserved = refl; descriptors = refl }

pub rct-got : (s : RctSection) → RctNames no_refusal s (rct_answer (Ok s))
unfolding rct_answer
rct-got s = rct-numbers no_refusal s

pub rct-refused : (r : Refusal) → RctNames r no_related (rct_answer (Err r))
unfolding rct_answer
rct-refused r = rct-numbers r no_related

-- a verdict and what was read, or zeros, whatever a reading answers
abbrev rct_told : Result RctSection Refusal → RctSection
rct_told (Ok s) = s
rct_told (Err r) = no_related

pub rct-names : (s : Result RctSection Refusal) → RctNames (refusal_of (verdict_of s)) (rct_told s) (rct_answer s)
unfolding refusal_of
rct-names (Ok s) = rct-got s
rct-names (Err r) = rct-refused r

pub record RntNames (r : Refusal) (s : RntSection) (f : RntAnswer) : Type 0 where
  pub refusal : f.refusal ≡ r
  pub total : f.total ≡ s.total
  pub header : f.header ≡ header_flat s.header.section
  pub context : f.context_id_type ≡ s.header.context_id_type
  pub reserved : f.reserved_common_descriptors_length ≡ s.reserved_common_descriptors_length
  pub common : f.common_descriptors ≡ s.common_descriptors
  pub providers : f.number_of_providers ≡ s.number_of_providers

module _ (r : Refusal) (s : RntSection) where
  rnt-numbers : RntNames r s (rnt_numbers r s)
  unfolding rnt_numbers
  rnt-numbers = record { refusal = refl; total = refl; header = refl; context = refl; reserved = refl; common = refl; providers = refl }

pub rnt-got : (s : RntSection) → RntNames no_refusal s (rnt_answer (Ok s))
unfolding rnt_answer
rnt-got s = rnt-numbers no_refusal s

pub rnt-refused : (r : Refusal) → RntNames r no_resolution (rnt_answer (Err r))
unfolding rnt_answer
rnt-refused r = rnt-numbers r no_resolution
