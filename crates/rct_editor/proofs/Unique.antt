-- Each public function's own contract takes every input and leaves one outcome.
-- Assumes nothing.
use mathlib.Core.Path.{refl}
use Rattle.wire.proofs.One.{One, both, pair}
use Rattle.rct_editor.proofs.editing.append.Kinds as append-kinds
use Rattle.rct_editor.proofs.editing.append.Reads as append-reads
use Rattle.rct_editor.proofs.editing.replace.Kinds as replace-kinds
use Rattle.rct_editor.proofs.editing.replace.Reads as replace-reads
use Rattle.rct_editor.proofs.editing.append_placed.Kinds as append-placed-kinds
use Rattle.rct_editor.proofs.editing.append_placed.Reads as append-placed-reads
use Rattle.rct_editor.proofs.editing.replace_placed.Kinds as replace-placed-kinds
use Rattle.rct_editor.proofs.editing.replace_placed.Reads as replace-placed-reads

pub append-placed-one : One append-placed-kinds.ps append-placed-kinds.r append-placed-reads.Asked append-placed-reads.Learnt
append-placed-one = record { total = λ κs a. tt; one = λ κs a x y v w p q. (both p.0 q.0, pair (both p.1 q.1) refl) }

pub replace-placed-one : One replace-placed-kinds.ps replace-placed-kinds.r replace-placed-reads.Asked replace-placed-reads.Learnt
replace-placed-one = record { total = λ κs a. tt; one = λ κs a x y v w p q. (both p.0 q.0, pair (both p.1 q.1) refl) }

pub append-one : One append-kinds.ps append-kinds.r append-reads.Asked append-reads.Learnt
append-one = record { total = λ κs a. tt; one = λ κs a x y v w p q. (both p.0 q.0, pair (both p.1 q.1) refl) }

pub replace-one : One replace-kinds.ps replace-kinds.r replace-reads.Asked replace-reads.Learnt
replace-one = record { total = λ κs a. tt; one = λ κs a x y v w p q. (both p.0 q.0, pair (both p.1 q.1) refl) }
