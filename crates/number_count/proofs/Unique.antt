-- The public function's own contract takes every input and leaves one outcome.
-- Assumes nothing.
use mathlib.Core.Path.{refl}
use Rattle.wire.proofs.One.{One, both}
use Rattle.number_count.proofs.count.Kinds as count-kinds
use Rattle.number_count.proofs.count.Reads as count-reads

pub count-one : One count-kinds.ps count-kinds.r count-reads.Asked count-reads.Learnt
count-one = record { total = λ κs a. tt; one = λ κs a x y v w p q. (both p q, refl) }
