-- The public function's own contract takes every input and leaves one outcome.
-- Assumes nothing.
use mathlib.Core.Path.{refl}
use Rattle.wire.proofs.One.{One, both, pair}
use Rattle.byte_moves.proofs.move_within.Kinds as move-within-kinds
use Rattle.byte_moves.proofs.move_within.Reads as move-within-reads

pub move-within-one : One move-within-kinds.ps move-within-kinds.r move-within-reads.Asked move-within-reads.Learnt
move-within-one = record { total = λ κs a. tt; one = λ κs a x y v w p q. (both p.0 q.0, pair (both p.1 q.1) refl) }
