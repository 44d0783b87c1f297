-- Each public function's own contract takes every input and leaves one outcome.
-- Assumes nothing.
use mathlib.Core.Path.{refl}
use Rattle.wire.proofs.One.{One, both}
use Rattle.crc_register.proofs.by_bytes.Kinds as by-bytes-kinds
use Rattle.crc_register.proofs.by_bytes.Reads as by-bytes-reads
use Rattle.crc_register.proofs.left_of.Kinds as left-of-kinds
use Rattle.crc_register.proofs.left_of.Reads as left-of-reads

pub by-bytes-one : One by-bytes-kinds.ps by-bytes-kinds.r by-bytes-reads.Asked by-bytes-reads.Learnt
by-bytes-one = record { total = λ κs a. tt; one = λ κs a x y v w p q. (both p q, refl) }

pub left-of-one : One left-of-kinds.ps left-of-kinds.r left-of-reads.Asked left-of-reads.Learnt
left-of-one = record { total = λ κs a. tt; one = λ κs a x y v w p q. (both p q, refl) }
