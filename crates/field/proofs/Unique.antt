-- Each public function's own contract takes every input and leaves one outcome.
-- Assumes nothing.
use mathlib.Core.Path.{◌≡◌, refl}
use Rattle.wire.proofs.One.{One, both}
use Rattle.field.proofs.Field.of_rank.Kinds as of-rank-kinds
use Rattle.field.proofs.Field.of_rank.Reads as of-rank-reads
use Rattle.field.proofs.Field.check.Kinds as check-kinds
use Rattle.field.proofs.Field.check.Reads as check-reads
use Rattle.field.proofs.Field.low.Kinds as low-kinds
use Rattle.field.proofs.Field.low.Reads as low_reads

pub of-rank-one : One of-rank-kinds.ps of-rank-kinds.r of-rank-reads.Asked of-rank-reads.Learnt
of-rank-one = record { total = λ κs a. tt; one = λ κs a x y v w p q. (both p q, refl) }

pub check-one : One check-kinds.ps check-kinds.r check-reads.Asked check-reads.Learnt
check-one = record { total = λ κs a. tt; one = λ κs a x y v w p q. (both p q, refl) }

pub low-one : One low-kinds.ps low-kinds.r low_reads.Asked low_reads.Learnt
low-one = record { total = λ κs a. tt; one = λ κs a x y v w p q. (both p q, refl) }
