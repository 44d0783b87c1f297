-- Each public function's own contract takes every input and leaves one outcome.
-- Assumes nothing.
use mathlib.Core.Path.{◌≡◌, refl}
use Rattle.wire.proofs.One.{One, both}
use Rattle.link_names.proofs.link_type.LinkType.of_number.Kinds as type-of-number-kinds
use Rattle.link_names.proofs.link_type.LinkType.of_number.Reads as type-of-number-reads
use Rattle.link_names.proofs.link_type.LinkType.to_number.Kinds as type-to-number-kinds
use Rattle.link_names.proofs.link_type.LinkType.to_number.Reads as type-to-number-reads
use Rattle.link_names.proofs.link_type.LinkType.numbers.Kinds as type-numbers-kinds
use Rattle.link_names.proofs.link_type.LinkType.numbers.Reads as type-numbers-reads

pub type-of-number-one : One type-of-number-kinds.ps type-of-number-kinds.r type-of-number-reads.Asked type-of-number-reads.Learnt
type-of-number-one = record { total = λ κs a. tt; one = λ κs a x y v w p q. (both p q, refl) }

pub type-to-number-one : One type-to-number-kinds.ps type-to-number-kinds.r type-to-number-reads.Asked type-to-number-reads.Learnt
type-to-number-one = record { total = λ κs a. tt; one = λ κs a x y v w p q. (both p q, refl) }

pub type-numbers-one : One type-numbers-kinds.ps type-numbers-kinds.r type-numbers-reads.Asked type-numbers-reads.Learnt
type-numbers-one = record { total = λ κs a. tt; one = λ κs a x y v w p q. (both p q, refl) }
