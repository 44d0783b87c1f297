-- Each public function's own contract takes every input and leaves one outcome.
-- Assumes nothing.
use mathlib.Core.Path.{refl}
use Rattle.wire.proofs.One.{One, both}
use Rattle.rct_bodies.proofs.numbered_body.Kinds as numbered-body-kinds
use Rattle.rct_bodies.proofs.numbered_body.Reads as numbered-body-reads

pub numbered-body-one : One numbered-body-kinds.ps numbered-body-kinds.r numbered-body-reads.Asked numbered-body-reads.Learnt
numbered-body-one = record { total = λ κs a. tt; one = λ κs a x y v w p q. (both p q, refl) }
