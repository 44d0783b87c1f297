-- Each public function's own contract takes every input and leaves one outcome.
-- Assumes nothing.
use mathlib.Core.Path.{◌≡◌, refl}
use Rattle.wire.proofs.One.{One, both}
use Rattle.length_field.proofs.LengthField.of_bytes.Kinds as of-bytes-kinds
use Rattle.length_field.proofs.LengthField.of_bytes.Reads as of-bytes-reads
use Rattle.length_field.proofs.LengthField.to_bytes.Kinds as to-bytes-kinds
use Rattle.length_field.proofs.LengthField.to_bytes.Reads as to-bytes-reads
use Rattle.length_field.proofs.LengthField.check_left.Kinds as check-left-kinds
use Rattle.length_field.proofs.LengthField.check_left.Reads as check-left-reads
use Rattle.length_field.proofs.LengthField.check_last.Kinds as check-last-kinds
use Rattle.length_field.proofs.LengthField.check_last.Reads as check-last-reads

pub of-bytes-one : One of-bytes-kinds.ps of-bytes-kinds.r of-bytes-reads.Asked of-bytes-reads.Learnt
of-bytes-one = record { total = λ κs a. tt; one = λ κs a x y v w p q. (both p q, refl) }

pub to-bytes-one : One to-bytes-kinds.ps to-bytes-kinds.r to-bytes-reads.Asked to-bytes-reads.Learnt
to-bytes-one = record { total = λ κs a. tt; one = λ κs a x y v w p q. (both p q, refl) }

pub check-left-one : One check-left-kinds.ps check-left-kinds.r check-left-reads.Asked check-left-reads.Learnt
check-left-one = record { total = λ κs a. tt; one = λ κs a x y v w p q. (both p q, refl) }

pub check-last-one : One check-last-kinds.ps check-last-kinds.r check-last-reads.Asked check-last-reads.Learnt
check-last-one = record { total = λ κs a. tt; one = λ κs a x y v w p q. (both p q, refl) }
