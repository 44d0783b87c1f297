-- Each public function's own contract takes every input and leaves one outcome.
-- Assumes nothing.
use mathlib.Core.Path.{refl}
use Rattle.wire.proofs.One.{One, both}
use Rattle.section_header.proofs.SectionHeader.with_reserved.Kinds as with-reserved-kinds
use Rattle.section_header.proofs.SectionHeader.with_reserved.Reads as with-reserved-reads
use Rattle.section_header.proofs.SectionHeader.new.Kinds as new-kinds
use Rattle.section_header.proofs.SectionHeader.new.Reads as new-reads
use Rattle.section_header.proofs.SectionHeader.none.Kinds as none-kinds
use Rattle.section_header.proofs.SectionHeader.none.Reads as none_reads
use Rattle.section_header.proofs.SectionHeader.syntax_indicator.Kinds as syntax-indicator-kinds
use Rattle.section_header.proofs.SectionHeader.syntax_indicator.Reads as syntax-indicator-reads

pub with-reserved-one : One with-reserved-kinds.ps with-reserved-kinds.r with-reserved-reads.Asked with-reserved-reads.Learnt
with-reserved-one = record { total = λ κs a. tt; one = λ κs a x y v w p q. (both p q, refl) }

pub new-one : One new-kinds.ps new-kinds.r new-reads.Asked new-reads.Learnt
new-one = record { total = λ κs a. tt; one = λ κs a x y v w p q. (both p q, refl) }

pub none-one : One none-kinds.ps none-kinds.r none_reads.Asked none_reads.Learnt
none-one = record { total = λ κs a. tt; one = λ κs a x y v w p q. (both p q, refl) }

pub syntax-indicator-one : One syntax-indicator-kinds.ps syntax-indicator-kinds.r syntax-indicator-reads.Asked syntax-indicator-reads.Learnt
syntax-indicator-one = record { total = λ κs a. tt; one = λ κs a x y v w p q. (both p q, refl) }
