-- Each public function's own contract takes every input and leaves one outcome.
-- Assumes nothing.
use mathlib.Core.Path.{refl}
use Rattle.wire.proofs.One.{One, both}
use Rattle.rct_index_updater.proofs.bring_up.Kinds as bring-up-kinds
use Rattle.rct_index_updater.proofs.bring_up.Reads as bring-up-reads
use Rattle.rct_index_updater.proofs.last_of.Kinds as last-of-kinds
use Rattle.rct_index_updater.proofs.last_of.Reads as last-of-reads

pub bring-up-one : One bring-up-kinds.ps bring-up-kinds.r bring-up-reads.Asked bring-up-reads.Learnt
bring-up-one = record { total = λ κs a. tt; one = λ κs a x y v w p q. (both p q, refl) }

pub last-of-one : One last-of-kinds.ps last-of-kinds.r last-of-reads.Asked last-of-reads.Learnt
last-of-one = record { total = λ κs a. tt; one = λ κs a x y v w p q. (both p q, refl) }
