-- A descriptor loop as it is written (ISO/IEC 13818-1, 2.6: descriptor_tag 8, descriptor_length 8, that many bytes): records, the bytes that they are written as, and which records have such bytes. Nothing here reads.
-- Assumes nothing.
use Rattle.std.specs.Prelude.{ℕ, ◌≤◌, ◌<◌, List, ◌∷◌, length}
use Rattle.wire.specs.Lists.{Bytes}
use Rattle.wire.specs.Runs.{in_order, AllFit}

-- the bytes before a descriptor's body, its tag and its length; the widest length, of 8 bits
abbrev pub head_length : ℕ
head_length = 2

abbrev pub longest_body : ℕ
longest_body = 255

pub record Descriptor : Type 0 where
  pub tag : ℕ
  pub body : List ℕ

abbrev pub descriptor_bytes : Descriptor → List ℕ
descriptor_bytes d = d.tag ∷ length d.body ∷ d.body

-- which descriptors have bytes: the tag is within its field, the length within its own
pub record DescriptorFits (d : Descriptor) : Type 0 where
  pub tag : d.tag < 256
  pub short : length d.body ≤ longest_body
  pub bytes : Bytes d.body

-- a loop: descriptor after descriptor
abbrev pub loop_bytes : List Descriptor → List ℕ
loop_bytes = in_order descriptor_bytes

abbrev pub LoopFits : List Descriptor → Type 0
LoopFits = AllFit DescriptorFits
