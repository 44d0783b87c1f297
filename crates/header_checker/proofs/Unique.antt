-- The public function's own contract takes every input and leaves one outcome.
-- Assumes nothing.
use mathlib.Core.Path.{refl}
use Rattle.wire.proofs.One.{One, both}
use Rattle.header_checker.proofs.check_header.Kinds as check-header-kinds
use Rattle.header_checker.proofs.check_header.Reads as check-header-reads

pub check-header-one : One check-header-kinds.ps check-header-kinds.r check-header-reads.Asked check-header-reads.Learnt
check-header-one = record { total = λ κs a. tt; one = λ κs a x y v w p q. (both p q, refl) }
