-- Each public function's own contract takes every input and leaves one outcome.
-- Assumes nothing.
use mathlib.Core.Path.{refl}
use Rattle.wire.proofs.One.{One, both}
use Rattle.rct_entries.proofs.read_entry.Kinds as read-entry-kinds
use Rattle.rct_entries.proofs.read_entry.Reads as read-entry-reads

pub read-entry-one : One read-entry-kinds.ps read-entry-kinds.r read-entry-reads.Asked read-entry-reads.Learnt
read-entry-one = record { total = λ κs a. tt; one = λ κs a x y v w p q. (both p q, refl) }
