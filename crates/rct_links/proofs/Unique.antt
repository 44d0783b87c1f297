-- Each public function's own contract takes every input and leaves one outcome.
-- Assumes nothing.
use mathlib.Core.Path.{refl}
use Rattle.wire.proofs.One.{One, both}
use Rattle.rct_links.proofs.read_link.Kinds as read-link-kinds
use Rattle.rct_links.proofs.read_link.Reads as read-link-reads
use Rattle.rct_links.proofs.read_item.Kinds as read-item-kinds
use Rattle.rct_links.proofs.read_item.Reads as read-item-reads

pub read-link-one : One read-link-kinds.ps read-link-kinds.r read-link-reads.Asked read-link-reads.Learnt
read-link-one = record { total = λ κs a. tt; one = λ κs a x y v w p q. (both p q, refl) }

pub read-item-one : One read-item-kinds.ps read-item-kinds.r read-item-reads.Asked read-item-reads.Learnt
read-item-one = record { total = λ κs a. tt; one = λ κs a x y v w p q. (both p q, refl) }
