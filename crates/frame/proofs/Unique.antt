-- Each public function's own contract takes every input and leaves one outcome.
-- Assumes nothing.
use mathlib.Core.Path.{refl}
use Rattle.wire.proofs.One.{One, both}
use Rattle.frame.proofs.Table.least.Kinds as least-kinds
use Rattle.frame.proofs.Table.least.Reads as least-reads
use Rattle.frame.proofs.Demands.plain.Kinds as plain-kinds
use Rattle.frame.proofs.Demands.plain.Reads as plain-reads
use Rattle.frame.proofs.Demands.checked.Kinds as checked-kinds
use Rattle.frame.proofs.Demands.checked.Reads as checked-reads
use Rattle.frame.proofs.total.Kinds as total-kinds
use Rattle.frame.proofs.total.Reads as total-reads
use Rattle.frame.proofs.payload_end.Kinds as payload-end-kinds
use Rattle.frame.proofs.payload_end.Reads as payload-end-reads

pub least-one : One least-kinds.ps least-kinds.r least-reads.Asked least-reads.Learnt
least-one = record { total = λ κs a. tt; one = λ κs a x y v w p q. (both p q, refl) }

pub plain-one : One plain-kinds.ps plain-kinds.r plain-reads.Asked plain-reads.Learnt
plain-one = record { total = λ κs a. tt; one = λ κs a x y v w p q. (both p q, refl) }

pub checked-one : One checked-kinds.ps checked-kinds.r checked-reads.Asked checked-reads.Learnt
checked-one = record { total = λ κs a. tt; one = λ κs a x y v w p q. (both p q, refl) }

pub total-one : One total-kinds.ps total-kinds.r total-reads.Asked total-reads.Learnt
total-one = record { total = λ κs a. tt; one = λ κs a x y v w p q. (both p q, refl) }

pub payload-end-one : One payload-end-kinds.ps payload-end-kinds.r payload-end-reads.Asked payload-end-reads.Learnt
payload-end-one = record { total = λ κs a. tt; one = λ κs a x y v w p q. (both p q, refl) }
