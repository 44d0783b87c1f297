-- Each public function's own contract takes every input and leaves one outcome.
-- Assumes nothing.
use mathlib.Core.Path.{refl}
use Rattle.wire.proofs.One.{One, both}
use Rattle.locator_length.proofs.length_of.Kinds as length-of-kinds
use Rattle.locator_length.proofs.length_of.Reads as length-of-reads

pub length-of-one : One length-of-kinds.ps length-of-kinds.r length-of-reads.Asked length-of-reads.Learnt
length-of-one = record { total = λ κs a. tt; one = λ κs a x y v w p q. (both p q, refl) }
