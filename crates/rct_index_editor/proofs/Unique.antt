-- Each public function's own contract takes every input and leaves one outcome.
-- Assumes nothing.
use mathlib.Core.Path.{refl}
use Rattle.wire.proofs.One.{One, both, pair}
use Rattle.rct_index_editor.proofs.append.Kinds as append-kinds
use Rattle.rct_index_editor.proofs.append.Reads as append-reads
use Rattle.rct_index_editor.proofs.replace.Kinds as replace-kinds
use Rattle.rct_index_editor.proofs.replace.Reads as replace-reads

pub append-one : One append-kinds.ps append-kinds.r append-reads.Asked append-reads.Learnt
append-one = record { total = λ κs a. tt; one = λ κs a x y v w p q. (both p.0 q.0, pair (both p.1 q.1) refl) }

pub replace-one : One replace-kinds.ps replace-kinds.r replace-reads.Asked replace-reads.Learnt
replace-one = record { total = λ κs a. tt; one = λ κs a x y v w p q. (both p.0 q.0, pair (both p.1 q.1) refl) }
