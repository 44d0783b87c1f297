-- Each public function's own contract takes every input and leaves one outcome.
-- Assumes nothing.
use mathlib.Core.Path.{refl}
use Rattle.wire.proofs.One.{One, both}
use Rattle.locator.proofs.DvbLocatorService.with_reserved.Kinds as service-kinds
use Rattle.locator.proofs.DvbLocatorService.with_reserved.Reads as service-reads
use Rattle.locator.proofs.DvbLocatorService.full.Kinds as full-kinds
use Rattle.locator.proofs.DvbLocatorService.full.Reads as full-reads
use Rattle.locator.proofs.DvbBinaryLocator.with_reserved.Kinds as locator-kinds
use Rattle.locator.proofs.DvbBinaryLocator.with_reserved.Reads as locator-reads
use Rattle.locator.proofs.DvbBinaryLocator.new.Kinds as new-kinds
use Rattle.locator.proofs.DvbBinaryLocator.new.Reads as new-reads

pub service-with-reserved-one : One service-kinds.ps service-kinds.r service-reads.Asked service-reads.Learnt
service-with-reserved-one = record { total = λ κs a. tt; one = λ κs a x y v w p q. (both p q, refl) }

pub full-one : One full-kinds.ps full-kinds.r full-reads.Asked full-reads.Learnt
full-one = record { total = λ κs a. tt; one = λ κs a x y v w p q. (both p q, refl) }

pub locator-with-reserved-one : One locator-kinds.ps locator-kinds.r locator-reads.Asked locator-reads.Learnt
locator-with-reserved-one = record { total = λ κs a. tt; one = λ κs a x y v w p q. (both p q, refl) }

pub new-one : One new-kinds.ps new-kinds.r new-reads.Asked new-reads.Learnt
new-one = record { total = λ κs a. tt; one = λ κs a x y v w p q. (both p q, refl) }
