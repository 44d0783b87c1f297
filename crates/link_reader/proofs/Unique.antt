-- Each public function's own contract takes every input and leaves one outcome.
-- Assumes nothing.
use mathlib.Core.Path.{refl}
use Rattle.wire.proofs.One.{One, both}
use Rattle.link_reader.proofs.read_link.Kinds as read-link-kinds
use Rattle.link_reader.proofs.read_link.Reads as read-link-reads
use Rattle.link_reader.proofs.read_item.Kinds as read-item-kinds
use Rattle.link_reader.proofs.read_item.Reads as read-item-reads
use Rattle.link_reader.proofs.item_from.Kinds as item-from-kinds
use Rattle.link_reader.proofs.item_from.Reads as item-from-reads

pub read-link-one : One read-link-kinds.ps read-link-kinds.r read-link-reads.Asked read-link-reads.Learnt
read-link-one = record { total = λ κs a. tt; one = λ κs a x y v w p q. (both p q, refl) }

pub read-item-one : One read-item-kinds.ps read-item-kinds.r read-item-reads.Asked read-item-reads.Learnt
read-item-one = record { total = λ κs a. tt; one = λ κs a x y v w p q. (both p q, refl) }

pub item-from-one : One item-from-kinds.ps item-from-kinds.r item-from-reads.Asked item-from-reads.Learnt
item-from-one = record { total = λ κs a. tt; one = λ κs a x y v w p q. (both p q, refl) }
