-- Each public function's own contract takes every input and leaves one outcome.
-- Assumes nothing.
use mathlib.Core.Path.{refl}
use Rattle.wire.proofs.One.{One, both}
use Rattle.rct_readings.proofs.plain_places.Kinds as plain-places-kinds
use Rattle.rct_readings.proofs.plain_places.Reads as plain-places-reads
use Rattle.rct_readings.proofs.checked_places.Kinds as checked-places-kinds
use Rattle.rct_readings.proofs.checked_places.Reads as checked-places-reads

pub plain-places-one : One plain-places-kinds.ps plain-places-kinds.r plain-places-reads.Asked plain-places-reads.Learnt
plain-places-one = record { total = λ κs a. tt; one = λ κs a x y v w p q. (both p q, refl) }

pub checked-places-one : One checked-places-kinds.ps checked-places-kinds.r checked-places-reads.Asked checked-places-reads.Learnt
checked-places-one = record { total = λ κs a. tt; one = λ κs a x y v w p q. (both p q, refl) }
