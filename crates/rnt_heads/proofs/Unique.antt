-- Each public function's own contract takes every input and leaves one outcome.
-- Assumes nothing.
use mathlib.Core.Path.{refl}
use Rattle.wire.proofs.One.{One, both}
use Rattle.rnt_heads.proofs.past_head.Kinds as past-head-kinds
use Rattle.rnt_heads.proofs.past_head.Reads as past-head-reads
use Rattle.rnt_heads.proofs.past_authority.Kinds as past-authority-kinds
use Rattle.rnt_heads.proofs.past_authority.Reads as past-authority-reads

pub past-head-one : One past-head-kinds.ps past-head-kinds.r past-head-reads.Asked past-head-reads.Learnt
past-head-one = record { total = λ κs a. tt; one = λ κs a x y v w p q. (both p q, refl) }

pub past-authority-one : One past-authority-kinds.ps past-authority-kinds.r past-authority-reads.Asked past-authority-reads.Learnt
past-authority-one = record { total = λ κs a. tt; one = λ κs a x y v w p q. (both p q, refl) }
