-- The public function's own contract takes every input and leaves one outcome.
-- Assumes nothing.
use mathlib.Core.Path.{refl}
use Rattle.wire.proofs.One.{One, both}
use Rattle.fields_reader.proofs.read_fields.Kinds as read-fields-kinds
use Rattle.fields_reader.proofs.read_fields.Reads as read-fields-reads

pub read-fields-one : One read-fields-kinds.ps read-fields-kinds.r read-fields-reads.Asked read-fields-reads.Learnt
read-fields-one = record { total = λ κs a. tt; one = λ κs a x y v w p q. (both p q, refl) }
