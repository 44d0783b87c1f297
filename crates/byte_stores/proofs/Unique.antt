-- Each public function's own contract takes every input and leaves one outcome.
-- Assumes nothing.
use mathlib.Core.Path.{refl}
use Rattle.wire.proofs.One.{One, both, pair}
use Rattle.byte_stores.proofs.put_at.Kinds as put-at-kinds
use Rattle.byte_stores.proofs.put_at.Reads as put-at-reads

pub put-at-one : One put-at-kinds.ps put-at-kinds.r put-at-reads.Asked put-at-reads.Learnt
put-at-one = record { total = λ κs a. tt; one = λ κs a x y v w p q. (both p.0 q.0, pair (both p.1 q.1) refl) }
