-- Each public function's own contract takes every input and leaves one outcome.
-- Assumes nothing.
use mathlib.Core.Path.{refl}
use Rattle.wire.proofs.One.{One, both}
use Rattle.rnt_walker.proofs.walk.read_places.Kinds as read-places-kinds
use Rattle.rnt_walker.proofs.walk.read_places.Reads as read-places-reads

pub read-places-one : One read-places-kinds.ps read-places-kinds.r read-places-reads.Asked read-places-reads.Learnt
read-places-one = record { total = λ κs a. tt; one = λ κs a x y v w p q. (both p q, refl) }
