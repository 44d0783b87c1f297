-- Each public function's own contract takes every input and leaves one outcome.
-- Assumes nothing.
use mathlib.Core.Path.{refl}
use Rattle.wire.proofs.One.{One, both}
use Rattle.locator_checker.proofs.check_fields.Kinds as check-fields-kinds
use Rattle.locator_checker.proofs.check_fields.Reads as check-fields-reads
use Rattle.locator_checker.proofs.check_windows.Kinds as check-windows-kinds
use Rattle.locator_checker.proofs.check_windows.Reads as check-windows-reads

pub check-fields-one : One check-fields-kinds.ps check-fields-kinds.r check-fields-reads.Asked check-fields-reads.Learnt
check-fields-one = record { total = λ κs a. tt; one = λ κs a x y v w p q. (both p q, refl) }

pub check-windows-one : One check-windows-kinds.ps check-windows-kinds.r check-windows-reads.Asked check-windows-reads.Learnt
check-windows-one = record { total = λ κs a. tt; one = λ κs a x y v w p q. (both p q, refl) }
