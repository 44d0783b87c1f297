-- Each public function's own contract takes every input and leaves one outcome.
-- Assumes nothing.
use mathlib.Core.Path.{refl}
use Rattle.wire.proofs.One.{One, both}
use Rattle.rnt_reader.proofs.read_section.Kinds as read-section-kinds
use Rattle.rnt_reader.proofs.read_section.Reads as read-section-reads
use Rattle.rnt_reader.proofs.check_section.Kinds as check-section-kinds
use Rattle.rnt_reader.proofs.check_section.Reads as check-section-reads

pub read-section-one : One read-section-kinds.ps read-section-kinds.r read-section-reads.Asked read-section-reads.Learnt
read-section-one = record { total = λ κs a. tt; one = λ κs a x y v w p q. (both p q, refl) }

pub check-section-one : One check-section-kinds.ps check-section-kinds.r check-section-reads.Asked check-section-reads.Learnt
check-section-one = record { total = λ κs a. tt; one = λ κs a x y v w p q. (both p q, refl) }
