-- Each public function's own contract takes every input and leaves one outcome.
-- Assumes nothing.
use mathlib.Core.Path.{refl}
use Rattle.wire.proofs.One.{One, both}
use Rattle.rnt.proofs.RntHeader.table.Kinds as table-kinds
use Rattle.rnt.proofs.RntHeader.table.Reads as table-reads
use Rattle.rnt.proofs.RntHeader.common_at.Kinds as common-at-kinds
use Rattle.rnt.proofs.RntHeader.common_at.Reads as common-at-reads

pub table-one : One table-kinds.ps table-kinds.r table-reads.Asked table-reads.Learnt
table-one = record { total = λ κs a. tt; one = λ κs a x y v w p q. (both p q, refl) }

pub common-at-one : One common-at-kinds.ps common-at-kinds.r common-at-reads.Asked common-at-reads.Learnt
common-at-one = record { total = λ κs a. tt; one = λ κs a x y v w p q. (both p q, refl) }
