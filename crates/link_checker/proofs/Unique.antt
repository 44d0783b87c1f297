-- Each public function's own contract takes every input and leaves one outcome.
-- Assumes nothing.
use mathlib.Core.Path.{refl}
use Rattle.wire.proofs.One.{One, both}
use Rattle.link_checker.proofs.check_link.Kinds as check-link-kinds
use Rattle.link_checker.proofs.check_link.Reads as check-link-reads

pub check-link-one : One check-link-kinds.ps check-link-kinds.r check-link-reads.Asked check-link-reads.Learnt
check-link-one = record { total = λ κs a. tt; one = λ κs a x y v w p q. (both p q, refl) }
