-- A 12-bit length with the four bits beside it, two bytes in all (ETSI TS 102 323, Tables 109 and 110; ISO/IEC 13818-1,
-- 2.4.4.10), and such a field followed by as many bytes as it says: a link's entry, a descriptor loop.
-- Assumes nothing.
use Rattle.std.specs.Prelude.{ℕ, ◌+◌, ◌-◌, ◌*◌, ◌/◌, ◌%◌, ◌≤◌, ◌<◌, ltb, List, [], ◌∷◌, ◌++◌, length, get_or}
use Rattle.wire.specs.Lists.{Bytes, part}
use Rattle.wire.specs.Numbers.{word16}
use Rattle.wire.specs.Verdict.{refuse, ◌▷◌, Verdict}
use Rattle.length_field.specs.declared.LengthField.{LengthField}

-- the widest number of 12 bits, and of four
abbrev pub longest : ℕ
longest = 4095

abbrev pub widest_beside : ℕ
widest_beside = 15

-- the two bytes: four bits, then the length's highest four; the length's lowest eight
unfoldable pub length_bytes : ℕ → ℕ → List ℕ
length_bytes beside n = (beside * 16 + n / 256) ∷ (n % 256) ∷ []

-- of the 16 bits of two bytes: the length, which is the lowest twelve, and the four before it
abbrev pub length_of : ℕ → ℕ → ℕ
length_of hi lo = word16 hi lo % (longest + 1)

abbrev pub beside_of : ℕ → ℕ → ℕ
beside_of hi lo = word16 hi lo / (longest + 1)

-- of the two bytes at p
abbrev pub length_at : List ℕ → ℕ → ℕ
length_at xs p = length_of (get_or xs p 0) (get_or xs (p + 1) 0)

abbrev pub beside_at : List ℕ → ℕ → ℕ
beside_at xs p = beside_of (get_or xs p 0) (get_or xs (p + 1) 0)

-- the field of two bytes, as the code carries it
abbrev pub length_field : ℕ → ℕ → LengthField
length_field hi lo = record { beside = beside_of hi lo; length = length_of hi lo }

-- ---- four bits, a 12-bit length, and as many bytes

pub record Block : Type 0 where
  pub beside : ℕ
  pub body : List ℕ

unfoldable pub block_bytes : Block → List ℕ
block_bytes b = length_bytes b.beside (length b.body) ++ b.body

pub record BlockFits (b : Block) : Type 0 where
  pub narrow : b.beside ≤ widest_beside
  pub short : length b.body ≤ longest
  pub bytes : Bytes b.body

-- the block that stands at p, and the place behind it
abbrev pub block_at : List ℕ → ℕ → Block
block_at xs p = record { beside = beside_at xs p; body = part xs (p + 2) (length_at xs p) }

abbrev pub block_end : List ℕ → ℕ → ℕ
block_end xs p = p + 2 + length_at xs p

-- ---- the rows of a block

-- a declared length of n bytes where m are left: too long (number long; declared, available); and where nothing may
-- follow, slack behind it (number slack; slack, 0)
unfoldable pub long_row : ℕ → ℕ → ℕ → Verdict
long_row long n m = refuse (ltb m n) long n m

unfoldable pub last_rows : ℕ → ℕ → ℕ → ℕ → Verdict
last_rows long slack n m = long_row long n m ▷ refuse (ltb n m) slack (m - n) 0

-- a block at p of bytes that end at e: its length field is cut off (number cut; need, have), or the bytes that it
-- declares run past e (number long, with the figures f and g that a table gives)
unfoldable pub block_rows : ℕ → ℕ → ℕ → ℕ → List ℕ → ℕ → ℕ → Verdict
block_rows cut long f g xs e p = refuse (ltb e (p + 2)) cut (p + 2) e ▷ refuse (ltb e (block_end xs p)) long f g

-- with the figures declared and available
abbrev pub block_verdict : ℕ → ℕ → List ℕ → ℕ → ℕ → Verdict
block_verdict cut long xs e p = block_rows cut long (length_at xs p) (e - (p + 2)) xs e p

-- with the figures need and have
abbrev pub block_need : ℕ → ℕ → List ℕ → ℕ → ℕ → Verdict
block_need cut long xs e p = block_rows cut long (block_end xs p) e xs e p

-- a block that is the last before e: what is left behind it is slack (number slack; slack, 0)
unfoldable pub last_verdict : ℕ → ℕ → ℕ → List ℕ → ℕ → ℕ → Verdict
last_verdict cut long slack xs e p = block_verdict cut long xs e p ▷ refuse (ltb (block_end xs p) e) slack (e - block_end xs p) 0
