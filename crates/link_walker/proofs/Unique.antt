-- Each public function's own contract takes every input and leaves one outcome.
-- Assumes nothing.
use mathlib.Core.Path.{refl}
use Rattle.wire.proofs.One.{One, both}
use Rattle.link_walker.proofs.body_places.Kinds as body-places-kinds
use Rattle.link_walker.proofs.body_places.Reads as body-places-reads
use Rattle.link_walker.proofs.fields_places.Kinds as fields-places-kinds
use Rattle.link_walker.proofs.fields_places.Reads as fields-places-reads
use Rattle.link_walker.proofs.check_body.Kinds as check-body-kinds
use Rattle.link_walker.proofs.check_body.Reads as check-body-reads

pub body-places-one : One body-places-kinds.ps body-places-kinds.r body-places-reads.Asked body-places-reads.Learnt
body-places-one = record { total = λ κs a. tt; one = λ κs a x y v w p q. (both p q, refl) }

pub fields-places-one : One fields-places-kinds.ps fields-places-kinds.r fields-places-reads.Asked fields-places-reads.Learnt
fields-places-one = record { total = λ κs a. tt; one = λ κs a x y v w p q. (both p q, refl) }

pub check-body-one : One check-body-kinds.ps check-body-kinds.r check-body-reads.Asked check-body-reads.Learnt
check-body-one = record { total = λ κs a. tt; one = λ κs a x y v w p q. (both p q, refl) }
