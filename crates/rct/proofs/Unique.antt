-- Each public function's own contract takes every input and leaves one outcome.
-- Assumes nothing.
use mathlib.Core.Path.{refl}
use Rattle.wire.proofs.One.{One, both}
use Rattle.rct.proofs.RctHeader.table.Kinds as table-kinds
use Rattle.rct.proofs.RctHeader.table.Reads as table-reads
use Rattle.rct.proofs.RctHeader.head.Kinds as head-kinds
use Rattle.rct.proofs.RctHeader.head.Reads as head-reads
use Rattle.rct.proofs.RctHeader.new.Kinds as new-kinds
use Rattle.rct.proofs.RctHeader.new.Reads as new-reads

pub table-one : One table-kinds.ps table-kinds.r table-reads.Asked table-reads.Learnt
table-one = record { total = λ κs a. tt; one = λ κs a x y v w p q. (both p q, refl) }

pub head-one : One head-kinds.ps head-kinds.r head-reads.Asked head-reads.Learnt
head-one = record { total = λ κs a. tt; one = λ κs a x y v w p q. (both p q, refl) }

pub new-one : One new-kinds.ps new-kinds.r new-reads.Asked new-reads.Learnt
new-one = record { total = λ κs a. tt; one = λ κs a x y v w p q. (both p q, refl) }
