-- Sections byte by byte. The smallest without the syntax indicator: the plain reading takes it, and the checked one answers 38, of a declared
-- length that would be refused behind that too. Then the lengths around the limit: the plain reading takes what the field tells, and the
-- checked one answers 28 right behind 3, whatever stands behind that.
-- Assumes nothing.
use Prim.Native.Nat.{ℕ, ◌+◌, ◌/◌, ◌%◌}
use mathlib.Core.Path.{◌≡◌, refl}
use mathlib.Core.List.{List, [], ◌∷◌}
use lib.ListN.{take, replicate}
use Rattle.length_field.specs.Lengths.{block_rows, last_verdict}
use Rattle.wire.specs.Verdict.{bad, refuse, ◌▷◌, Fine}
use Rattle.frame.specs.Reading.{checked_demands, opened, reading_by, checked_by}
use Rattle.rct.specs.Reading.{payload_verdict, reading, plain, checked}

-- no links, and a loop of n bytes of zeros; the CRC is zeros too
abbrev no_links : ℕ → List ℕ
no_links n =
    0x76 ∷ (0xF0 + (n + 14) / 256) ∷ ((n + 14) % 256) ∷ 0x00 ∷ 0x01 ∷ 0xC1 ∷ 0x00 ∷ 0x00 ∷ 0x07 ∷ 0xD0 ∷ 0x00 ∷ (0xF0 + n / 256) ∷ (n % 256)
    ∷ replicate (n + 4) 0

pub record Rows : Type 0 where
  pub without_indicator : plain (0x76 ∷ 0x70 ∷ 0x0E ∷ 0x00 ∷ 0x01 ∷ 0xC1 ∷ 0x00 ∷ 0x00 ∷ 0x07 ∷ 0xD0 ∷ 0x00 ∷ 0xF0 ∷ 0x00 ∷ 0x00 ∷ 0x00 ∷ 0x00 ∷ 0x00 ∷ []) ≡ Fine
  pub unindicated : checked (0x76 ∷ 0x70 ∷ 0x0D ∷ 0x00 ∷ 0x01 ∷ 0xC1 ∷ 0x00 ∷ 0x00 ∷ 0x07 ∷ 0xD0 ∷ 0x00 ∷ 0xF0 ∷ 0x00 ∷ 0x00 ∷ 0x00 ∷ 0x00 ∷ 0x00 ∷ []) ≡ bad 38 0x70 0
  pub at_limit : reading checked_demands (no_links 4079) ≡ Fine
  pub above_plainly : plain (no_links 4080) ≡ Fine
  pub above : checked (no_links 4080) ≡ bad 28 4094 4093
  pub longest_plainly : plain (no_links 4081) ≡ Fine
  pub longest : checked (no_links 4081) ≡ bad 28 4095 4093
  pub above_cut : checked (take 4097 (no_links 4081)) ≡ bad 3 4095 4097
  pub above_filled : checked (0x76 ∷ 0xFF ∷ 0xFE ∷ replicate 4094 0xFF) ≡ bad 28 4094 4093

pub rows : Rows
unfolding checked_by reading_by opened payload_verdict block_rows last_verdict refuse ◌▷◌
rows =
    record {
      without_indicator = refl;
      unindicated = refl;
      at_limit = refl;
      above_plainly = refl;
      above = refl;
      longest_plainly = refl;
      longest = refl;
      above_cut = refl;
      above_filled = refl;
    }
