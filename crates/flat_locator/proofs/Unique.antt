-- Each public function's own contract takes every input and leaves one outcome.
-- Assumes nothing.
use mathlib.Core.Path.{refl}
use Rattle.wire.proofs.One.{One, both}
use Rattle.flat_locator.proofs.is_set.Kinds as is-set-kinds
use Rattle.flat_locator.proofs.is_set.Reads as is-set-reads
use Rattle.flat_locator.proofs.FlatService.of.Kinds as service-of-kinds
use Rattle.flat_locator.proofs.FlatService.of.Reads as service-of-reads
use Rattle.flat_locator.proofs.FlatService.service.Kinds as service-kinds
use Rattle.flat_locator.proofs.FlatService.service.Reads as service-reads
use Rattle.flat_locator.proofs.FlatIdentifier.of.Kinds as identifier-of-kinds
use Rattle.flat_locator.proofs.FlatIdentifier.of.Reads as identifier-of-reads
use Rattle.flat_locator.proofs.FlatIdentifier.identifier.Kinds as identifier-kinds
use Rattle.flat_locator.proofs.FlatIdentifier.identifier.Reads as identifier-reads
use Rattle.flat_locator.proofs.FlatWindows.of.Kinds as windows-of-kinds
use Rattle.flat_locator.proofs.FlatWindows.of.Reads as windows-of-reads
use Rattle.flat_locator.proofs.FlatWindows.windows.Kinds as windows-kinds
use Rattle.flat_locator.proofs.FlatWindows.windows.Reads as windows-reads
use Rattle.flat_locator.proofs.FlatLocator.of.Kinds as locator-of-kinds
use Rattle.flat_locator.proofs.FlatLocator.of.Reads as locator-of-reads
use Rattle.flat_locator.proofs.FlatLocator.locator.Kinds as locator-kinds
use Rattle.flat_locator.proofs.FlatLocator.locator.Reads as locator-reads

pub is-set-one : One is-set-kinds.ps is-set-kinds.r is-set-reads.Asked is-set-reads.Learnt
is-set-one = record { total = λ κs a. tt; one = λ κs a x y v w p q. (both p q, refl) }

pub service-of-one : One service-of-kinds.ps service-of-kinds.r service-of-reads.Asked service-of-reads.Learnt
service-of-one = record { total = λ κs a. tt; one = λ κs a x y v w p q. (both p q, refl) }

pub service-one : One service-kinds.ps service-kinds.r service-reads.Asked service-reads.Learnt
service-one = record { total = λ κs a. tt; one = λ κs a x y v w p q. (both p q, refl) }

pub identifier-of-one : One identifier-of-kinds.ps identifier-of-kinds.r identifier-of-reads.Asked identifier-of-reads.Learnt
identifier-of-one = record { total = λ κs a. tt; one = λ κs a x y v w p q. (both p q, refl) }

pub identifier-one : One identifier-kinds.ps identifier-kinds.r identifier-reads.Asked identifier-reads.Learnt
identifier-one = record { total = λ κs a. tt; one = λ κs a x y v w p q. (both p q, refl) }

pub windows-of-one : One windows-of-kinds.ps windows-of-kinds.r windows-of-reads.Asked windows-of-reads.Learnt
windows-of-one = record { total = λ κs a. tt; one = λ κs a x y v w p q. (both p q, refl) }

pub windows-one : One windows-kinds.ps windows-kinds.r windows-reads.Asked windows-reads.Learnt
windows-one = record { total = λ κs a. tt; one = λ κs a x y v w p q. (both p q, refl) }

pub locator-of-one : One locator-of-kinds.ps locator-of-kinds.r locator-of-reads.Asked locator-of-reads.Learnt
locator-of-one = record { total = λ κs a. tt; one = λ κs a x y v w p q. (both p q, refl) }

pub locator-one : One locator-kinds.ps locator-kinds.r locator-reads.Asked locator-reads.Learnt
locator-one = record { total = λ κs a. tt; one = λ κs a x y v w p q. (both p q, refl) }
