-- The public function's own contract takes every input and leaves one outcome.
-- Assumes nothing.
use mathlib.Core.Path.{refl}
use Rattle.wire.proofs.One.{One, both}
use Rattle.header_writer.proofs.header_bytes.Kinds as header-bytes-kinds
use Rattle.header_writer.proofs.header_bytes.Reads as header-bytes-reads

pub header-bytes-one : One header-bytes-kinds.ps header-bytes-kinds.r header-bytes-reads.Asked header-bytes-reads.Learnt
header-bytes-one = record { total = λ κs a. tt; one = λ κs a x y v w p q. (both p q, refl) }
