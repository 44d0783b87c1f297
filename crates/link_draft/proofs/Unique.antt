-- Each public function's own contract takes every input and leaves one outcome.
-- Assumes nothing.
use mathlib.Core.Path.{refl}
use Rattle.wire.proofs.One.{One, both}
use Rattle.link_draft.proofs.held.Kinds as held-kinds
use Rattle.link_draft.proofs.held.Reads as held_reads
use Rattle.link_draft.proofs.check_range.Kinds as check-range-kinds
use Rattle.link_draft.proofs.check_range.Reads as check-range-reads
use Rattle.link_draft.proofs.uri_here.Kinds as uri-here-kinds
use Rattle.link_draft.proofs.uri_here.Reads as uri-here-reads
use Rattle.link_draft.proofs.locator_here.Kinds as locator-here-kinds
use Rattle.link_draft.proofs.locator_here.Reads as locator-here-reads

pub held_one : One held-kinds.ps held-kinds.r held_reads.Asked held_reads.Learnt
held_one = record { total = λ κs a. tt; one = λ κs a x y v w p q. (both p.0 q.0, refl) }

pub check-range-one : One check-range-kinds.ps check-range-kinds.r check-range-reads.Asked check-range-reads.Learnt
check-range-one = record { total = λ κs a. tt; one = λ κs a x y v w p q. (both p q, refl) }

pub uri-here-one : One uri-here-kinds.ps uri-here-kinds.r uri-here-reads.Asked uri-here-reads.Learnt
uri-here-one = record { total = λ κs a. tt; one = λ κs a x y v w p q. (both p q, refl) }

pub locator-here-one : One locator-here-kinds.ps locator-here-kinds.r locator-here-reads.Asked locator-here-reads.Learnt
locator-here-one = record { total = λ κs a. tt; one = λ κs a x y v w p q. (both p q, refl) }
