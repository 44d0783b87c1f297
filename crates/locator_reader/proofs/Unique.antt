-- Each public function's own contract takes every input and leaves one outcome.
-- Assumes nothing.
use mathlib.Core.Path.{refl}
use Rattle.wire.proofs.One.{One, both}
use Rattle.locator_reader.proofs.locator_size.Kinds as locator-size-kinds
use Rattle.locator_reader.proofs.locator_size.Reads as locator-size-reads
use Rattle.locator_reader.proofs.read_locator.Kinds as read-locator-kinds
use Rattle.locator_reader.proofs.read_locator.Reads as read-locator-reads

pub locator-size-one : One locator-size-kinds.ps locator-size-kinds.r locator-size-reads.Asked locator-size-reads.Learnt
locator-size-one = record { total = λ κs a. tt; one = λ κs a x y v w p q. (both p q, refl) }

pub read-locator-one : One read-locator-kinds.ps read-locator-kinds.r read-locator-reads.Asked read-locator-reads.Learnt
read-locator-one = record { total = λ κs a. tt; one = λ κs a x y v w p q. (both p q, refl) }
