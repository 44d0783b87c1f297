-- What the record of a whole reading stands for: the section's header, its common descriptors, which are those bytes of the lent slice, and its number of providers. Which numbers it can refuse with.
-- Assumes nothing.
use Prim.Native.Nat.{ℕ, ◌+◌, ◌<◌}
use mathlib.Core.Path.{◌≡◌, refl, sym, ap, ◌∙◌}
use mathlib.Core.Bool.{true}
use mathlib.Core.List.{List}
use native.Mathlib.Omega.{arith}
use lib.ListN.{length, length-take}
use Rattle.wire.specs.Lists.{Bytes}
use Rattle.spans.specs.Spans.{span_of}
use Rattle.wire.specs.declared.verdict.Refusal.{Refusal}
use Rattle.wire.proofs.Among.{listed, Among}
use Rattle.frame.specs.Syntax.{crc_length}
use Rattle.frame.specs.Reading.{payload_end, plain_demands}
use Rattle.rnt.specs.Syntax.{Section, section_bytes}
use Rattle.rnt.specs.Reading.{section_at, provider_count, provider_place, plain, checked}
use Rattle.rnt.proofs.Accepted.{accepted, rebuilt}
use Rattle.rnt.proofs.Listed.{plain_reading, checked_reading, plain-listed, checked-listed}
use Rattle.rnt.proofs.Numbers.{count_is, provider-first}
use Rattle.rnt_reader.specs.Sections.{section_info, section_read}
use Rattle.rnt_reader.specs.declared.RntSection.{RntSection}
use Rattle.std.specs.Prelude.{Err, Ok}
use Rattle.wire.specs.Verdict.{Fine, Verdict}

-- a record and the text that it has ranges of stand for a section
pub record StandsFor (text : List ℕ) (k : RntSection) (s : Section) : Type 0 where
  pub header : k.header ≡ s.header
  pub reserved : k.reserved_common_descriptors_length ≡ s.common.beside
  pub common : span_of text k.common_descriptors ≡ s.common.body
  pub number : k.number_of_providers ≡ length s.providers

pub section-image : (xs : List ℕ) → StandsFor xs (section_info xs) (section_at xs)
unfolding section_at
section-image xs = record { header = refl; reserved = refl; common = refl; number = sym (count_is xs) }

-- its total is that of the section's bytes with their CRC, and its first provider stands behind the common descriptors
pub section-total : (xs : List ℕ) → Bytes xs → plain xs ≡ Fine → (section_info xs).total ≡ length (section_bytes (section_at xs)) + crc_length
section-total xs b v =
    let o = (accepted plain_demands xs v).frame in
    omega (arith, o.large, o.within, ap length (rebuilt plain_demands xs b v).same ∙ length-take (payload_end xs) xs)

pub first-provider : (xs : List ℕ) → 0 < provider_count xs → provider_place xs 0 ≡ (section_info xs).common_descriptors.start + (section_info xs).common_descriptors.length
first-provider xs h = provider-first xs h

read-listed : (ns : List ℕ) (v : Verdict) (xs : List ℕ) → Among ns v → (r : Refusal) → section_read v xs ≡ Err r → listed r.number ns ≡ true
unfolding section_read
read-listed ns (Ok _) xs a r e = let z : ◌≡◌ {A = ℕ} 0 1 = cc in absurd (omega arith)
read-listed ns (Err q) xs a r e = a r (cc)

pub read-section-listed : (xs : List ℕ) (r : Refusal) → section_read (plain xs) xs ≡ Err r → listed r.number plain_reading ≡ true
read-section-listed xs = read-listed plain_reading (plain xs) xs (plain-listed xs)

pub check-section-listed : (xs : List ℕ) (r : Refusal) → section_read (checked xs) xs ≡ Err r → listed r.number checked_reading ≡ true
check-section-listed xs = read-listed checked_reading (checked xs) xs (checked-listed xs)
