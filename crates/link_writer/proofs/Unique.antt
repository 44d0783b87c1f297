-- Each public function's own contract takes every input and leaves one outcome.
-- Assumes nothing.
use mathlib.Core.Path.{refl}
use Rattle.wire.proofs.One.{One, both, pair}
use Rattle.link_writer.proofs.put_link.Kinds as put-link-kinds
use Rattle.link_writer.proofs.put_link.Reads as put-link-reads

pub put-link-one : One put-link-kinds.ps put-link-kinds.r put-link-reads.Asked put-link-reads.Learnt
put-link-one = record { total = λ κs a. tt; one = λ κs a x y v w p q. (refl, pair (both p q) refl) }
