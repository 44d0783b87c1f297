-- The public function's own contract takes every input and leaves one outcome.
-- Assumes nothing.
use mathlib.Core.Path.{refl}
use Rattle.wire.proofs.One.{One, both}
use Rattle.header_reader.proofs.read_header.Kinds as read-header-kinds
use Rattle.header_reader.proofs.read_header.Reads as read-header-reads

pub read-header-one : One read-header-kinds.ps read-header-kinds.r read-header-reads.Asked read-header-reads.Learnt
read-header-one = record { total = λ κs a. tt; one = λ κs a x y v w p q. (both p q, refl) }
