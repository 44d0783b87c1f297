-- Each public function's own contract takes every input and leaves one outcome.
-- Assumes nothing.
use mathlib.Core.Path.{refl}
use Rattle.wire.proofs.One.{One, both, pair}
use Rattle.rct_maker.proofs.make.Kinds as make-kinds
use Rattle.rct_maker.proofs.make.Reads as make-reads

pub make-one : One make-kinds.ps make-kinds.r make-reads.Asked make-reads.Learnt
make-one = record { total = λ κs a. tt; one = λ κs a x y v w p q. (both p.0 q.0, pair (both p.1 q.1) refl) }
