-- Each public function's own contract takes every input and leaves one outcome.
-- Assumes nothing.
use mathlib.Core.Path.{refl}
use Rattle.wire.proofs.One.{One, both}
use Rattle.rct_blocks.proofs.past_entry_length.Kinds as past-entry-length-kinds
use Rattle.rct_blocks.proofs.past_entry_length.Reads as past-entry-length-reads
use Rattle.rct_blocks.proofs.check_loop.Kinds as check-loop-kinds
use Rattle.rct_blocks.proofs.check_loop.Reads as check-loop-reads

pub past-entry-length-one : One past-entry-length-kinds.ps past-entry-length-kinds.r past-entry-length-reads.Asked past-entry-length-reads.Learnt
past-entry-length-one = record { total = λ κs a. tt; one = λ κs a x y v w p q. (both p q, refl) }

pub check-loop-one : One check-loop-kinds.ps check-loop-kinds.r check-loop-reads.Asked check-loop-reads.Learnt
check-loop-one = record { total = λ κs a. tt; one = λ κs a x y v w p q. (both p q, refl) }
