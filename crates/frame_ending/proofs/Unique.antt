-- Each public function's own contract takes every input and leaves one outcome.
-- Assumes nothing.
use mathlib.Core.Path.{refl}
use Rattle.wire.proofs.One.{One, both, pair}
use Rattle.frame_ending.proofs.check_crc.Kinds as check-crc-kinds
use Rattle.frame_ending.proofs.check_crc.Reads as check-crc-reads
use Rattle.frame_ending.proofs.seal.Kinds as seal-kinds
use Rattle.frame_ending.proofs.seal.Reads as seal-reads

pub check-crc-one : One check-crc-kinds.ps check-crc-kinds.r check-crc-reads.Asked check-crc-reads.Learnt
check-crc-one = record { total = λ κs a. tt; one = λ κs a x y v w p q. (both p q, refl) }

pub seal-one : One seal-kinds.ps seal-kinds.r seal-reads.Asked seal-reads.Learnt
seal-one = record { total = λ κs a. tt; one = λ κs a x y v w p q. (both p.0 q.0, pair (both p.1 q.1) refl) }
