-- How a section ends in a lent buffer: its CRC written at a place, and read there.
-- Assumes nothing.
use Rattle.std.specs.Prelude.{ℕ, ◌+◌, Bool, List, leb, length, take}
use Rattle.std.proofs.lemmas.List.Edits.{sets}
use Rattle.wire.specs.Choice.{pick}
use Rattle.wire.specs.Numbers.{bytes32}
use Rattle.wire.specs.Refusals.{wrong_crc}
use Rattle.wire.specs.Verdict.{bad, Verdict}
use Rattle.crc.specs.Crc.{crc_of}
use Rattle.frame.specs.Syntax.{crc_length}
use Rattle.frame.specs.Reading.{crc_row}

-- there is room in xs for a CRC from e on
abbrev pub crc_room : List ℕ → ℕ → Bool
crc_room xs e = leb (e + crc_length) (length xs)

-- the CRC at e against that of the bytes before it: 20; and 20 (0, 0) where there is no room for one
unfoldable pub crc_verdict : List ℕ → ℕ → Verdict
crc_verdict xs e = pick (crc_room xs e) (crc_row xs e) (bad wrong_crc 0 0)

-- the CRC of what stands before e, at e
unfoldable pub sealed_at : List ℕ → ℕ → List ℕ
sealed_at xs e = sets xs e (bytes32 (crc_of (take e xs)))

-- xs with the CRC there, where there is room for it, and else xs; and the place behind it, or 0
unfoldable pub seal_at : List ℕ → ℕ → List ℕ
seal_at xs e = pick (crc_room xs e) (sealed_at xs e) xs

unfoldable pub seal_end : List ℕ → ℕ → ℕ
seal_end xs e = pick (crc_room xs e) (e + crc_length) 0
