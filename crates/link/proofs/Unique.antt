-- Each public function's own contract takes every input and leaves one outcome.
-- Assumes nothing.
use mathlib.Core.Path.{refl}
use Rattle.wire.proofs.One.{One, both}
use Rattle.link.proofs.LinkItem.none.Kinds as item-none-kinds
use Rattle.link.proofs.LinkItem.none.Reads as item-none-reads
use Rattle.link.proofs.LinkFields.none.Kinds as fields-none-kinds
use Rattle.link.proofs.LinkFields.none.Reads as fields-none-reads
use Rattle.link.proofs.LinkInfo.none.Kinds as none-kinds
use Rattle.link.proofs.LinkInfo.none.Reads as none_reads
use Rattle.link.proofs.LinkFields.with_reserved_ones.Kinds as with-reserved-ones-kinds
use Rattle.link.proofs.LinkFields.with_reserved_ones.Reads as with-reserved-ones-reads
use Rattle.link.proofs.has_uri.Kinds as has-uri-kinds
use Rattle.link.proofs.has_uri.Reads as has-uri-reads
use Rattle.link.proofs.has_locator.Kinds as has-locator-kinds
use Rattle.link.proofs.has_locator.Reads as has-locator-reads

pub item-none-one : One item-none-kinds.ps item-none-kinds.r item-none-reads.Asked item-none-reads.Learnt
item-none-one = record { total = λ κs a. tt; one = λ κs a x y v w p q. (both p q, refl) }

pub fields-none-one : One fields-none-kinds.ps fields-none-kinds.r fields-none-reads.Asked fields-none-reads.Learnt
fields-none-one = record { total = λ κs a. tt; one = λ κs a x y v w p q. (both p q, refl) }

pub none-one : One none-kinds.ps none-kinds.r none_reads.Asked none_reads.Learnt
none-one = record { total = λ κs a. tt; one = λ κs a x y v w p q. (both p q, refl) }

pub with-reserved-ones-one : One with-reserved-ones-kinds.ps with-reserved-ones-kinds.r with-reserved-ones-reads.Asked with-reserved-ones-reads.Learnt
with-reserved-ones-one = record { total = λ κs a. tt; one = λ κs a x y v w p q. (both p q, refl) }

pub has-uri-one : One has-uri-kinds.ps has-uri-kinds.r has-uri-reads.Asked has-uri-reads.Learnt
has-uri-one = record { total = λ κs a. tt; one = λ κs a x y v w p q. (both p q, refl) }

pub has-locator-one : One has-locator-kinds.ps has-locator-kinds.r has-locator-reads.Asked has-locator-reads.Learnt
has-locator-one = record { total = λ κs a. tt; one = λ κs a x y v w p q. (both p q, refl) }
