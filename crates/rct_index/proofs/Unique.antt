-- Each public function's own contract takes every input and leaves one outcome.
-- Assumes nothing.
use mathlib.Core.Path.{refl}
use Rattle.wire.proofs.One.{One, both}
use Rattle.rct_index.proofs.LinkMarks.of.Kinds as of-kinds
use Rattle.rct_index.proofs.LinkMarks.of.Reads as of-reads
use Rattle.rct_index.proofs.LinkSets.none.Kinds as sets-none-kinds
use Rattle.rct_index.proofs.LinkSets.none.Reads as sets-none-reads
use Rattle.rct_index.proofs.LinkSets.with.Kinds as sets-with-kinds
use Rattle.rct_index.proofs.LinkSets.with.Reads as sets-with-reads
use Rattle.rct_index.proofs.RctIndex.none.Kinds as index-none-kinds
use Rattle.rct_index.proofs.RctIndex.none.Reads as index-none-reads
use Rattle.rct_index.proofs.RctIndex.place.Kinds as place-kinds
use Rattle.rct_index.proofs.RctIndex.place.Reads as place-reads

pub of_one : One of-kinds.ps of-kinds.r of-reads.Asked of-reads.Learnt
of_one = record { total = λ κs a. tt; one = λ κs a x y v w p q. (both p q, refl) }

pub sets-none-one : One sets-none-kinds.ps sets-none-kinds.r sets-none-reads.Asked sets-none-reads.Learnt
sets-none-one = record { total = λ κs a. tt; one = λ κs a x y v w p q. (both p q, refl) }

pub sets-with-one : One sets-with-kinds.ps sets-with-kinds.r sets-with-reads.Asked sets-with-reads.Learnt
sets-with-one = record { total = λ κs a. tt; one = λ κs a x y v w p q. (both p q, refl) }

pub index-none-one : One index-none-kinds.ps index-none-kinds.r index-none-reads.Asked index-none-reads.Learnt
index-none-one = record { total = λ κs a. tt; one = λ κs a x y v w p q. (both p q, refl) }

pub place-one : One place-kinds.ps place-kinds.r place-reads.Asked place-reads.Learnt
place-one = record { total = λ κs a. tt; one = λ κs a x y v w p q. (both p q, refl) }
