-- Each public function's own contract takes every input and leaves one outcome.
-- Assumes nothing.
use mathlib.Core.Path.{refl}
use Rattle.wire.proofs.One.{One, both}
use Rattle.flat_refusal.proofs.fine.Kinds as fine-kinds
use Rattle.flat_refusal.proofs.fine.Reads as fine-reads
use Rattle.flat_refusal.proofs.refusal_of.Kinds as refusal-of-kinds
use Rattle.flat_refusal.proofs.refusal_of.Reads as refusal-of-reads

pub fine-one : One fine-kinds.ps fine-kinds.r fine-reads.Asked fine-reads.Learnt
fine-one = record { total = λ κs a. tt; one = λ κs a x y v w p q. (both p q, refl) }

pub refusal-of-one : One refusal-of-kinds.ps refusal-of-kinds.r refusal-of-reads.Asked refusal-of-reads.Learnt
refusal-of-one = record { total = λ κs a. tt; one = λ κs a x y v w p q. (both p q, refl) }
