-- Each public function's own contract takes every input and leaves one outcome.
-- Assumes nothing.
use mathlib.Core.Path.{refl}
use Rattle.wire.proofs.One.{One, both}
use Rattle.edit_answers.proofs.Spliced.of.Kinds as of-kinds
use Rattle.edit_answers.proofs.Spliced.of.Reads as of-reads
use Rattle.edit_answers.proofs.Spliced.edited.Kinds as edited-kinds
use Rattle.edit_answers.proofs.Spliced.edited.Reads as edited-reads

pub of_one : One of-kinds.ps of-kinds.r of-reads.Asked of-reads.Learnt
of_one = record { total = λ κs a. tt; one = λ κs a x y v w p q. (both p q, refl) }

pub edited-one : One edited-kinds.ps edited-kinds.r edited-reads.Asked edited-reads.Learnt
edited-one = record { total = λ κs a. tt; one = λ κs a x y v w p q. (both p q, refl) }
