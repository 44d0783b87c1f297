-- Each public function's own contract takes every input and leaves one outcome.
-- Assumes nothing.
use mathlib.Core.Path.{refl}
use Rattle.wire.proofs.One.{One, both}
use Rattle.flat_link.proofs.FlatFields.of.Kinds as fields-of-kinds
use Rattle.flat_link.proofs.FlatFields.of.Reads as fields-of-reads
use Rattle.flat_link.proofs.FlatFields.fields.Kinds as fields-kinds
use Rattle.flat_link.proofs.FlatFields.fields.Reads as fields-reads
use Rattle.flat_link.proofs.FlatLink.of.Kinds as link-of-kinds
use Rattle.flat_link.proofs.FlatLink.of.Reads as link-of-reads
use Rattle.flat_link.proofs.FlatLink.link.Kinds as link-kinds
use Rattle.flat_link.proofs.FlatLink.link.Reads as link-reads

pub fields-of-one : One fields-of-kinds.ps fields-of-kinds.r fields-of-reads.Asked fields-of-reads.Learnt
fields-of-one = record { total = λ κs a. tt; one = λ κs a x y v w p q. (both p q, refl) }

pub fields-one : One fields-kinds.ps fields-kinds.r fields-reads.Asked fields-reads.Learnt
fields-one = record { total = λ κs a. tt; one = λ κs a x y v w p q. (both p q, refl) }

pub link-of-one : One link-of-kinds.ps link-of-kinds.r link-of-reads.Asked link-of-reads.Learnt
link-of-one = record { total = λ κs a. tt; one = λ κs a x y v w p q. (both p q, refl) }

pub link-one : One link-kinds.ps link-kinds.r link-reads.Asked link-reads.Learnt
link-one = record { total = λ κs a. tt; one = λ κs a x y v w p q. (both p q, refl) }
