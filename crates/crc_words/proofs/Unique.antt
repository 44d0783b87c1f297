-- The public function's own contract takes every input and leaves one outcome.
-- Assumes nothing.
use mathlib.Core.Path.{refl}
use Rattle.wire.proofs.One.{One, both}
use Rattle.crc_words.proofs.crc32.Kinds as crc32-kinds
use Rattle.crc_words.proofs.crc32.Reads as crc32-reads

pub crc32-one : One crc32-kinds.ps crc32-kinds.r crc32-reads.Asked crc32-reads.Learnt
crc32-one = record { total = λ κs a. tt; one = λ κs a x y v w p q. (both p q, refl) }
