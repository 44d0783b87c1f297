-- Each public function's own contract takes every input and leaves one outcome.
-- Assumes nothing.
use mathlib.Core.Path.{refl}
use Rattle.wire.proofs.One.{One, both}
use Rattle.locator_writer.proofs.locator_bytes.Kinds as locator-bytes-kinds
use Rattle.locator_writer.proofs.locator_bytes.Reads as locator-bytes-reads

pub locator-bytes-one : One locator-bytes-kinds.ps locator-bytes-kinds.r locator-bytes-reads.Asked locator-bytes-reads.Learnt
locator-bytes-one = record { total = λ κs a. tt; one = λ κs a x y v w p q. (both p q, refl) }
