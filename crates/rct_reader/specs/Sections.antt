-- The answer of a reading of the whole section: what its bytes say, or the refusal.
-- Assumes nothing.
use Rattle.std.specs.Prelude.{ℕ, ◌+◌, List, Err, Ok, Result}
use Rattle.length_field.specs.Lengths.{length_at, beside_at}
use Rattle.wire.specs.declared.verdict.Refusal.{Refusal}
use Rattle.frame.specs.Reading.{total_of}
use Rattle.rct.specs.Reading.{rct_header_at, count_at, loop_place}
use Rattle.rct_reader.specs.declared.RctSection.{RctSection}
use Rattle.wire.specs.Verdict.{Verdict}

-- the loop's descriptors are counted from the section's first byte
abbrev pub section_info : List ℕ → RctSection
section_info xs =
    record {
      total = total_of xs;
      header = rct_header_at xs;
      number_of_links = count_at xs;
      reserved_descriptor_loop_length = beside_at xs (loop_place xs);
      descriptors = record { start = loop_place xs + 2; length = length_at xs (loop_place xs) };
    }

-- by the verdict on the bytes
unfoldable pub section_read : Verdict → List ℕ → Result RctSection Refusal
section_read (Ok _) xs = Ok (section_info xs)
section_read (Err r) xs = Err r
