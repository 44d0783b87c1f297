-- The two rows about the locator L (docs/VECTORS.md), the bytes that are written of it, and those of records whose numbers are too
-- wide.
-- Assumes nothing.
use Prim.Native.Nat.{ℕ}
use mathlib.Core.Path.{◌≡◌, refl}
use mathlib.Core.Bool.{true, false}
use mathlib.Core.List.{List, [], ◌∷◌}
use lib.ListN.{take}
use Rattle.locator.specs.Syntax.{locator_bytes}
use Rattle.locator.specs.Reading.{locator_at, size_at, locator_verdict, cut, read_locator, got_locator}
use Rattle.locator.specs.Writing.{written_locator}
use Rattle.wire.specs.Verdict.{refuse, ◌▷◌}
use Rattle.locator.specs.declared.DvbBinaryLocator.{DvbBinaryLocator}
use Rattle.locator.specs.declared.DvbLocatorService.TheVariants.{Triplet, Full}
use Rattle.locator.specs.declared.DvbLocatorIdentifier.TheVariants.{None as NoIdentifier, TvaIdPes}
use Rattle.locator.specs.Windows.{some_windows}

abbrev pub bytes_l : List ℕ
bytes_l = 0x2C ∷ 0x07 ∷ 0xFF ∷ 0x00 ∷ 0x10 ∷ 0x00 ∷ 0x20 ∷ 0xA3 ∷ []

-- date 257, triplet 1023, start 16, duration 32, early 5, late 3; reliability set, the reserved bit a one, no identifier
abbrev pub record_l : DvbBinaryLocator
record_l = record {
  scheduled_time_reliability = true;
  reserved = 1;
  start_date = 257;
  service = Triplet 1023;
  start_time = 16;
  duration = 32;
  identifier = NoIdentifier;
  windows = some_windows 5 3;
}

pub row-L : read_locator bytes_l ≡ got_locator record_l 8
unfolding read_locator locator_verdict locator_at size_at refuse ◌▷◌
row-L = refl

pub row-L-cut : read_locator (take 7 bytes_l) ≡ cut 8 7
unfolding read_locator locator_verdict locator_at size_at refuse ◌▷◌
row-L-cut = refl

-- ---- written

pub row-L-written : written_locator record_l ≡ record { bytes = 0x2C ∷ 0x07 ∷ 0xFF ∷ 0x00 ∷ 0x10 ∷ 0x00 ∷ 0x20 ∷ 0xA3 ∷ 0 ∷ 0 ∷ 0 ∷ 0 ∷ 0 ∷ 0 ∷ 0 ∷ 0 ∷ []; length = 8 }
unfolding written_locator locator_bytes
row-L-written = refl

-- L with each narrow number too wide, its lowest bits those of L
abbrev wide_l : DvbBinaryLocator
wide_l = record {
  scheduled_time_reliability = true;
  reserved = 3;
  start_date = 769;
  service = Triplet 2047;
  start_time = 16;
  duration = 32;
  identifier = NoIdentifier;
  windows = some_windows 13 35;
}

pub row-L-wide : written_locator wide_l ≡ written_locator record_l
unfolding written_locator locator_bytes
row-L-wide = refl

-- date 257, the bits beside the service 3, early 5 and late 3 by their lowest bits; windows stand beside an identifier
abbrev wide_record : DvbBinaryLocator
wide_record = record {
  scheduled_time_reliability = false;
  reserved = 3;
  start_date = 769;
  service = Full 7 0x0102 0x0304 0x0506;
  start_time = 16;
  duration = 32;
  identifier = TvaIdPes 0x0708 9;
  windows = some_windows 13 35;
}

pub row-wide-written : written_locator wide_record ≡ record { bytes = 0xDC ∷ 0x07 ∷ 0x01 ∷ 0x02 ∷ 0x03 ∷ 0x04 ∷ 0x05 ∷ 0x06 ∷ 0x00 ∷ 0x10 ∷ 0x00 ∷ 0x20 ∷ 0x07 ∷ 0x08 ∷ 0x09 ∷ 0xA3 ∷ []; length = 16 }
unfolding written_locator locator_bytes
row-wide-written = refl
