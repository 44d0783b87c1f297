-- Each public function's own contract takes every input and leaves one outcome.
-- Assumes nothing.
use mathlib.Core.Path.{◌≡◌, refl}
use Rattle.wire.proofs.One.{One, both}
use Rattle.scheme_names.proofs.HowRelated.of_number.Kinds as scheme-of-number-kinds
use Rattle.scheme_names.proofs.HowRelated.of_number.Reads as scheme-of-number-reads
use Rattle.scheme_names.proofs.HowRelated.to_number.Kinds as scheme-to-number-kinds
use Rattle.scheme_names.proofs.HowRelated.to_number.Reads as scheme-to-number-reads
use Rattle.scheme_names.proofs.HowRelated.numbers.Kinds as scheme-numbers-kinds
use Rattle.scheme_names.proofs.HowRelated.numbers.Reads as scheme-numbers-reads

pub scheme-of-number-one : One scheme-of-number-kinds.ps scheme-of-number-kinds.r scheme-of-number-reads.Asked scheme-of-number-reads.Learnt
scheme-of-number-one = record { total = λ κs a. tt; one = λ κs a x y v w p q. (both p q, refl) }

pub scheme-to-number-one : One scheme-to-number-kinds.ps scheme-to-number-kinds.r scheme-to-number-reads.Asked scheme-to-number-reads.Learnt
scheme-to-number-one = record { total = λ κs a. tt; one = λ κs a x y v w p q. (both p q, refl) }

pub scheme-numbers-one : One scheme-numbers-kinds.ps scheme-numbers-kinds.r scheme-numbers-reads.Asked scheme-numbers-reads.Learnt
scheme-numbers-one = record { total = λ κs a. tt; one = λ κs a x y v w p q. (both p q, refl) }
