-- Each public function's own contract takes every input and leaves one outcome.
-- Assumes nothing.
use mathlib.Core.Path.{refl}
use Rattle.wire.proofs.One.{One, both}
use Rattle.rct_loops.proofs.plain_loop.Kinds as plain-loop-kinds
use Rattle.rct_loops.proofs.plain_loop.Reads as plain-loop-reads
use Rattle.rct_loops.proofs.checked_loop.Kinds as checked-loop-kinds
use Rattle.rct_loops.proofs.checked_loop.Reads as checked-loop-reads

pub plain-loop-one : One plain-loop-kinds.ps plain-loop-kinds.r plain-loop-reads.Asked plain-loop-reads.Learnt
plain-loop-one = record { total = λ κs a. tt; one = λ κs a x y v w p q. (both p q, refl) }

pub checked-loop-one : One checked-loop-kinds.ps checked-loop-kinds.r checked-loop-reads.Asked checked-loop-reads.Learnt
checked-loop-one = record { total = λ κs a. tt; one = λ κs a x y v w p q. (both p q, refl) }
