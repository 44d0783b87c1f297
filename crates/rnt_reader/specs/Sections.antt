-- The answer of the readings of a whole section.
-- Assumes nothing.
use Rattle.std.specs.Prelude.{ℕ, ◌+◌, List, Err, Ok, Result}
use Rattle.length_field.specs.Lengths.{length_at, beside_at}
use Rattle.spans.specs.Spans.{span}
use Rattle.frame.specs.Reading.{total_of}
use Rattle.rnt.specs.Syntax.{common_place}
use Rattle.rnt.specs.Reading.{rnt_header_at, provider_count}
use Rattle.rnt_reader.specs.declared.RntSection.{RntSection}
use Rattle.wire.specs.Verdict.{Verdict}
use Rattle.wire.specs.declared.verdict.Refusal.{Refusal}

-- the common descriptors are counted from the section's first byte
abbrev pub section_info : List ℕ → RntSection
section_info xs =
    record {
      total = total_of xs;
      header = rnt_header_at xs;
      reserved_common_descriptors_length = beside_at xs common_place;
      common_descriptors = span (common_place + 2) (length_at xs common_place);
      number_of_providers = provider_count xs;
    }

-- by the verdict on the bytes
unfoldable pub section_read : Verdict → List ℕ → Result RntSection Refusal
section_read (Ok _) xs = Ok (section_info xs)
section_read (Err r) xs = Err r
