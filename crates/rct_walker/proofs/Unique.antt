-- Each public function's own contract takes every input and leaves one outcome.
-- Assumes nothing.
use mathlib.Core.Path.{refl}
use Rattle.wire.proofs.One.{One, both}
use Rattle.rct_walker.proofs.walk.read_places.Kinds as read-places-kinds
use Rattle.rct_walker.proofs.walk.read_places.Reads as read-places-reads
use Rattle.rct_walker.proofs.walk.read_loop.Kinds as read-loop-kinds
use Rattle.rct_walker.proofs.walk.read_loop.Reads as read-loop-reads

pub read-places-one : One read-places-kinds.ps read-places-kinds.r read-places-reads.Asked read-places-reads.Learnt
read-places-one = record { total = λ κs a. tt; one = λ κs a x y v w p q. (both p q, refl) }

pub read-loop-one : One read-loop-kinds.ps read-loop-kinds.r read-loop-reads.Asked read-loop-reads.Learnt
read-loop-one = record { total = λ κs a. tt; one = λ κs a x y v w p q. (both p q, refl) }
