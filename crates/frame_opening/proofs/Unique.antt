-- Each public function's own contract takes every input and leaves one outcome.
-- Assumes nothing.
use mathlib.Core.Path.{refl}
use Rattle.wire.proofs.One.{One, both}
use Rattle.frame_opening.proofs.open.Kinds as open-kinds
use Rattle.frame_opening.proofs.open.Reads as open-reads

pub open-one : One open-kinds.ps open-kinds.r open-reads.Asked open-reads.Learnt
open-one = record { total = λ κs a. tt; one = λ κs a x y v w p q. (both p q, refl) }
