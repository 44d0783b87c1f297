-- The public function's own contract takes every input and leaves one outcome.
-- Assumes nothing.
use mathlib.Core.Path.{refl}
use Rattle.wire.proofs.One.{One, both}
use Rattle.descriptors.proofs.count_descriptors.Kinds as count-descriptors-kinds
use Rattle.descriptors.proofs.count_descriptors.Reads as count-descriptors-reads

pub count-descriptors-one : One count-descriptors-kinds.ps count-descriptors-kinds.r count-descriptors-reads.Asked count-descriptors-reads.Learnt
count-descriptors-one = record { total = λ κs a. tt; one = λ κs a x y v w p q. (both p q, refl) }
