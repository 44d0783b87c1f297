-- Each public function's own contract takes every input and leaves one outcome.
-- Assumes nothing.
use mathlib.Core.Path.{refl}
use Rattle.wire.proofs.One.{One, both}
use Rattle.rct_edit.proofs.most_links.Kinds as most-links-kinds
use Rattle.rct_edit.proofs.most_links.Reads as most-links-reads
use Rattle.rct_edit.proofs.filler.Kinds as filler-kinds
use Rattle.rct_edit.proofs.filler.Reads as filler-reads
use Rattle.rct_edit.proofs.room.check_room.Kinds as check-room-kinds
use Rattle.rct_edit.proofs.room.check_room.Reads as check-room-reads

pub most-links-one : One most-links-kinds.ps most-links-kinds.r most-links-reads.Asked most-links-reads.Learnt
most-links-one = record { total = λ κs a. tt; one = λ κs a x y v w p q. (both p q, refl) }

pub filler-one : One filler-kinds.ps filler-kinds.r filler-reads.Asked filler-reads.Learnt
filler-one = record { total = λ κs a. tt; one = λ κs a x y v w p q. (both p q, refl) }

pub check-room-one : One check-room-kinds.ps check-room-kinds.r check-room-reads.Asked check-room-reads.Learnt
check-room-one = record { total = λ κs a. tt; one = λ κs a x y v w p q. (both p q, refl) }
