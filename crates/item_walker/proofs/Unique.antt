-- Each public function's own contract takes every input and leaves one outcome.
-- Assumes nothing.
use mathlib.Core.Path.{refl}
use Rattle.wire.proofs.One.{One, both}
use Rattle.item_walker.proofs.past_item.Kinds as past-item-kinds
use Rattle.item_walker.proofs.past_item.Reads as past-item-reads
use Rattle.item_walker.proofs.past_items.Kinds as past-items-kinds
use Rattle.item_walker.proofs.past_items.Reads as past-items-reads

pub past-item-one : One past-item-kinds.ps past-item-kinds.r past-item-reads.Asked past-item-reads.Learnt
past-item-one = record { total = λ κs a. tt; one = λ κs a x y v w p q. (both p q, refl) }

pub past-items-one : One past-items-kinds.ps past-items-kinds.r past-items-reads.Asked past-items-reads.Learnt
past-items-one = record { total = λ κs a. tt; one = λ κs a x y v w p q. (both p q, refl) }
