-- Sections byte by byte: one that is accepted, with its records, and one for each row of docs/REFUSALS.md that refuses, with its number and figures; 38, of a length that would be refused behind it; and 28, right behind 3, whatever stands behind that.
-- Assumes nothing.
use Prim.Native.Nat.{ℕ, ◌+◌, ◌/◌, ◌%◌}
use mathlib.Core.Path.{◌≡◌, refl}
use mathlib.Core.Bool.{true}
use mathlib.Core.List.{List, [], ◌∷◌}
use lib.ListN.{take, replicate}
use Rattle.length_field.specs.Lengths.{long_row, block_rows}
use Rattle.wire.specs.Runs.{places_to}
use Rattle.wire.specs.Verdict.{bad, refuse, ◌▷◌, Fine}
use Rattle.frame.specs.Reading.{checked_demands, opened, reading_by, checked_by}
use Rattle.rnt.specs.Syntax.{Section}
use Rattle.rnt.specs.Reading.{provider_at, section_at, named_verdict, provider_head, provider_verdict, common_row, payload_verdict, reading, plain, checked}

-- two common descriptor bytes, and a provider with a name of two bytes, one descriptor byte and one authority
abbrev pub sample : List ℕ
sample =
    0x79 ∷ 0xF0 ∷ 0x1C ∷ 0x00 ∷ 0x01 ∷ 0xC1 ∷ 0x00 ∷ 0x00 ∷ 0x00 ∷ 0x90 ∷ 0x02 ∷ 0x11 ∷ 0x22 ∷ 0x70 ∷ 0x0C ∷ 0x02
    ∷ 0x61 ∷ 0x62 ∷ 0x50 ∷ 0x01 ∷ 0x33 ∷ 0x01 ∷ 0x63 ∷ 0x60 ∷ 0x02 ∷ 0x44 ∷ 0x55 ∷ 0x00 ∷ 0x00 ∷ 0x00 ∷ 0x00 ∷ []

abbrev pub sample_section : Section
sample_section =
    record {
      header =
          record {
            section =
                record {
                  section_syntax_indicator = true;
                  private_indicator = true;
                  reserved_b1 = 3;
                  table_id_extension = 1;
                  reserved_b5 = 3;
                  version_number = 0;
                  current_next_indicator = true;
                  section_number = 0;
                  last_section_number = 0;
                };
            context_id_type = 0;
          };
      common = record { beside = 9; body = 0x11 ∷ 0x22 ∷ [] };
      providers =
          record {
            reserved = 7;
            named = record { name = 0x61 ∷ 0x62 ∷ []; descriptors = record { beside = 5; body = 0x33 ∷ [] } };
            authorities = record { name = 0x63 ∷ []; reserved = 1; policy = 2; descriptors = 0x44 ∷ 0x55 ∷ [] } ∷ [];
          }
          ∷ [];
    }

-- no providers, and n bytes of common descriptors, zeros; the CRC is zeros too
abbrev no_providers : ℕ → List ℕ
no_providers n =
    0x79 ∷ (0xF0 + (n + 12) / 256) ∷ ((n + 12) % 256) ∷ 0x00 ∷ 0x01 ∷ 0xC1 ∷ 0x00 ∷ 0x00 ∷ 0x00 ∷ (0xF0 + n / 256) ∷ (n % 256) ∷ replicate (n + 4) 0

pub record Rows : Type 0 where
  pub fine : plain sample ≡ Fine
  pub records : section_at sample ≡ sample_section
  pub short : plain (0x79 ∷ 0xF0 ∷ 0x0C ∷ 0x00 ∷ 0x01 ∷ 0xC1 ∷ 0x00 ∷ 0x00 ∷ 0x00 ∷ 0xF0 ∷ 0x00 ∷ 0x00 ∷ 0x00 ∷ 0x00 ∷ []) ≡ bad 1 15 14
  pub other : plain (0x76 ∷ 0xF0 ∷ 0x0C ∷ 0x00 ∷ 0x01 ∷ 0xC1 ∷ 0x00 ∷ 0x00 ∷ 0x00 ∷ 0xF0 ∷ 0x00 ∷ 0x00 ∷ 0x00 ∷ 0x00 ∷ 0x00 ∷ []) ≡ bad 40 121 118
  pub without_indicator : plain (0x79 ∷ 0x70 ∷ 0x0C ∷ 0x00 ∷ 0x01 ∷ 0xC1 ∷ 0x00 ∷ 0x00 ∷ 0x00 ∷ 0xF0 ∷ 0x00 ∷ 0x00 ∷ 0x00 ∷ 0x00 ∷ 0x00 ∷ []) ≡ Fine
  pub unindicated : checked (0x79 ∷ 0x70 ∷ 0x0B ∷ 0x00 ∷ 0x01 ∷ 0xC1 ∷ 0x00 ∷ 0x00 ∷ 0x00 ∷ 0xF0 ∷ 0x00 ∷ 0x00 ∷ 0x00 ∷ 0x00 ∷ 0x00 ∷ []) ≡ bad 38 0x70 0
  pub small : plain (0x79 ∷ 0xF0 ∷ 0x0B ∷ 0x00 ∷ 0x01 ∷ 0xC1 ∷ 0x00 ∷ 0x00 ∷ 0x00 ∷ 0xF0 ∷ 0x00 ∷ 0x00 ∷ 0x00 ∷ 0x00 ∷ 0x00 ∷ []) ≡ bad 3 11 15
  pub cut : plain (0x79 ∷ 0xF0 ∷ 0x0D ∷ 0x00 ∷ 0x01 ∷ 0xC1 ∷ 0x00 ∷ 0x00 ∷ 0x00 ∷ 0xF0 ∷ 0x00 ∷ 0x00 ∷ 0x00 ∷ 0x00 ∷ 0x00 ∷ []) ≡ bad 3 13 15
  pub at_limit : reading checked_demands (no_providers 4081) ≡ Fine
  pub above_plainly : plain (no_providers 4082) ≡ Fine
  pub above : checked (no_providers 4082) ≡ bad 28 4094 4093
  pub longest_plainly : plain (no_providers 4083) ≡ Fine
  pub longest : checked (no_providers 4083) ≡ bad 28 4095 4093
  pub above_cut : checked (take 4097 (no_providers 4083)) ≡ bad 3 4095 4097
  pub above_filled : checked (0x79 ∷ 0xFF ∷ 0xFE ∷ replicate 4094 0xFF) ≡ bad 28 4094 4093
  pub common : plain (0x79 ∷ 0xF0 ∷ 0x0C ∷ 0x00 ∷ 0x01 ∷ 0xC1 ∷ 0x00 ∷ 0x00 ∷ 0x00 ∷ 0xF0 ∷ 0x01 ∷ 0x00 ∷ 0x00 ∷ 0x00 ∷ 0x00 ∷ []) ≡ bad 41 1 0
  pub provider_cut : plain (0x79 ∷ 0xF0 ∷ 0x0D ∷ 0x00 ∷ 0x01 ∷ 0xC1 ∷ 0x00 ∷ 0x00 ∷ 0x00 ∷ 0xF0 ∷ 0x00 ∷ 0xF0 ∷ 0x00 ∷ 0x00 ∷ 0x00 ∷ 0x00 ∷ []) ≡ bad 42 13 12
  pub provider_long : plain (0x79 ∷ 0xF0 ∷ 0x0F ∷ 0x00 ∷ 0x01 ∷ 0xC1 ∷ 0x00 ∷ 0x00 ∷ 0x00 ∷ 0xF0 ∷ 0x00 ∷ 0xF0 ∷ 0x02 ∷ 0x00 ∷ 0x00 ∷ 0x00 ∷ 0x00 ∷ 0x00 ∷ []) ≡ bad 43 2 1
  pub no_name : plain (0x79 ∷ 0xF0 ∷ 0x0E ∷ 0x00 ∷ 0x01 ∷ 0xC1 ∷ 0x00 ∷ 0x00 ∷ 0x00 ∷ 0xF0 ∷ 0x00 ∷ 0xF0 ∷ 0x00 ∷ 0x00 ∷ 0x00 ∷ 0x00 ∷ 0x00 ∷ []) ≡ bad 44 14 13
  pub name_cut : plain (0x79 ∷ 0xF0 ∷ 0x0F ∷ 0x00 ∷ 0x01 ∷ 0xC1 ∷ 0x00 ∷ 0x00 ∷ 0x00 ∷ 0xF0 ∷ 0x00 ∷ 0xF0 ∷ 0x01 ∷ 0x02 ∷ 0x00 ∷ 0x00 ∷ 0x00 ∷ 0x00 ∷ []) ≡ bad 44 16 14
  pub no_descriptors : plain (0x79 ∷ 0xF0 ∷ 0x10 ∷ 0x00 ∷ 0x01 ∷ 0xC1 ∷ 0x00 ∷ 0x00 ∷ 0x00 ∷ 0xF0 ∷ 0x00 ∷ 0xF0 ∷ 0x02 ∷ 0x00 ∷ 0xF0 ∷ 0x00 ∷ 0x00 ∷ 0x00 ∷ 0x00 ∷ []) ≡ bad 45 16 15
  pub descriptors_cut : plain (0x79 ∷ 0xF0 ∷ 0x11 ∷ 0x00 ∷ 0x01 ∷ 0xC1 ∷ 0x00 ∷ 0x00 ∷ 0x00 ∷ 0xF0 ∷ 0x00 ∷ 0xF0 ∷ 0x03 ∷ 0x00 ∷ 0xF0 ∷ 0x01 ∷ 0xB1 ∷ 0x90 ∷ 0xF0 ∷ 0xD1 ∷ []) ≡ bad 45 17 16
  pub authority_name_cut : plain (0x79 ∷ 0xF0 ∷ 0x12 ∷ 0x00 ∷ 0x01 ∷ 0xC1 ∷ 0x00 ∷ 0x00 ∷ 0x00 ∷ 0xF0 ∷ 0x00 ∷ 0xF0 ∷ 0x04 ∷ 0x00 ∷ 0xF0 ∷ 0x00 ∷ 0x01 ∷ 0x00 ∷ 0x00 ∷ 0x00 ∷ 0x00 ∷ []) ≡ bad 46 18 17
  pub authority_no_length : plain (0x79 ∷ 0xF0 ∷ 0x13 ∷ 0x00 ∷ 0x01 ∷ 0xC1 ∷ 0x00 ∷ 0x00 ∷ 0x00 ∷ 0xF0 ∷ 0x00 ∷ 0xF0 ∷ 0x05 ∷ 0x00 ∷ 0xF0 ∷ 0x00 ∷ 0x00 ∷ 0xF0 ∷ 0x00 ∷ 0x00 ∷ 0x00 ∷ 0x00 ∷ []) ≡ bad 46 19 18
  pub authority_descriptors_cut : plain (0x79 ∷ 0xF0 ∷ 0x14 ∷ 0x00 ∷ 0x01 ∷ 0xC1 ∷ 0x00 ∷ 0x00 ∷ 0x00 ∷ 0xF0 ∷ 0x00 ∷ 0xF0 ∷ 0x06 ∷ 0x00 ∷ 0xF0 ∷ 0x00 ∷ 0x00 ∷ 0xF0 ∷ 0x01 ∷ 0x14 ∷ 0xB4 ∷ 0xB6 ∷ 0x3F ∷ []) ≡ bad 46 20 19

pub rows : Rows
unfolding checked_by reading_by opened payload_verdict common_row long_row provider_verdict provider_head named_verdict block_rows places_to section_at provider_at refuse ◌▷◌
rows =
    record {
      fine = refl;
      records = refl;
      short = refl;
      other = refl;
      without_indicator = refl;
      unindicated = refl;
      small = refl;
      cut = refl;
      at_limit = refl;
      above_plainly = refl;
      above = refl;
      longest_plainly = refl;
      longest = refl;
      above_cut = refl;
      above_filled = refl;
      common = refl;
      provider_cut = refl;
      provider_long = refl;
      no_name = refl;
      name_cut = refl;
      no_descriptors = refl;
      descriptors_cut = refl;
      authority_name_cut = refl;
      authority_no_length = refl;
      authority_descriptors_cut = refl;
    }
