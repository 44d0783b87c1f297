-- Each public function's own contract takes every input and leaves one outcome.
-- Assumes nothing.
use mathlib.Core.Path.{refl}
use Rattle.wire.proofs.One.{One, both}
use Rattle.flat_sections.proofs.FlatHeader.of.Kinds as header-of-kinds
use Rattle.flat_sections.proofs.FlatHeader.of.Reads as header-of-reads
use Rattle.flat_sections.proofs.FlatHeader.header.Kinds as header-kinds
use Rattle.flat_sections.proofs.FlatHeader.header.Reads as header-reads
use Rattle.flat_sections.proofs.FlatRctHeader.of.Kinds as rct-header-of-kinds
use Rattle.flat_sections.proofs.FlatRctHeader.of.Reads as rct-header-of-reads
use Rattle.flat_sections.proofs.FlatRctHeader.header.Kinds as rct-header-kinds
use Rattle.flat_sections.proofs.FlatRctHeader.header.Reads as rct-header-reads
use Rattle.flat_sections.proofs.RctAnswer.of.Kinds as rct-kinds
use Rattle.flat_sections.proofs.RctAnswer.of.Reads as rct-reads
use Rattle.flat_sections.proofs.RntAnswer.of.Kinds as rnt-kinds
use Rattle.flat_sections.proofs.RntAnswer.of.Reads as rnt-reads

pub header-of-one : One header-of-kinds.ps header-of-kinds.r header-of-reads.Asked header-of-reads.Learnt
header-of-one = record { total = λ κs a. tt; one = λ κs a x y v w p q. (both p q, refl) }

pub header-one : One header-kinds.ps header-kinds.r header-reads.Asked header-reads.Learnt
header-one = record { total = λ κs a. tt; one = λ κs a x y v w p q. (both p q, refl) }

pub rct-header-of-one : One rct-header-of-kinds.ps rct-header-of-kinds.r rct-header-of-reads.Asked rct-header-of-reads.Learnt
rct-header-of-one = record { total = λ κs a. tt; one = λ κs a x y v w p q. (both p q, refl) }

pub rct-header-one : One rct-header-kinds.ps rct-header-kinds.r rct-header-reads.Asked rct-header-reads.Learnt
rct-header-one = record { total = λ κs a. tt; one = λ κs a x y v w p q. (both p q, refl) }

pub rct-one : One rct-kinds.ps rct-kinds.r rct-reads.Asked rct-reads.Learnt
rct-one = record { total = λ κs a. tt; one = λ κs a x y v w p q. (both p q, refl) }

pub rnt-one : One rnt-kinds.ps rnt-kinds.r rnt-reads.Asked rnt-reads.Learnt
rnt-one = record { total = λ κs a. tt; one = λ κs a x y v w p q. (both p q, refl) }
