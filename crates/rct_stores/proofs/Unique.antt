-- Each public function's own contract takes every input and leaves one outcome.
-- Assumes nothing.
use mathlib.Core.Path.{refl}
use Rattle.wire.proofs.One.{One, both, pair}
use Rattle.rct_stores.proofs.put_numbers.Kinds as put-numbers-kinds
use Rattle.rct_stores.proofs.put_numbers.Reads as put-numbers-reads
use Rattle.rct_stores.proofs.fill.Kinds as fill-kinds
use Rattle.rct_stores.proofs.fill.Reads as fill-reads

pub put-numbers-one : One put-numbers-kinds.ps put-numbers-kinds.r put-numbers-reads.Asked put-numbers-reads.Learnt
put-numbers-one = record { total = λ κs a. tt; one = λ κs a x y v w p q. (refl, pair (both p q) refl) }

pub fill_one : One fill-kinds.ps fill-kinds.r fill-reads.Asked fill-reads.Learnt
fill_one = record { total = λ κs a. tt; one = λ κs a x y v w p q. (refl, pair (both p q) refl) }
