-- Each public function's own contract takes every input and leaves one outcome: of a reader the slice with its place in
-- memory, and the number of the next item.
-- Assumes nothing.
use mathlib.Core.Path.{refl}
use base.Logic.{emp, id⊢}
use Rattle.wire.proofs.One.{One, both, pair}
use Rattle.link_items.proofs.Written.{WrittenOne, of-fact}
use Rattle.link_items.specs.contracts.items as items
use Rattle.link_items.specs.contracts.next as next
use Rattle.link_items.proofs.step_from.Kinds as step-from-kinds
use Rattle.link_items.proofs.step_from.Reads as step-from-reads
use Rattle.link_items.proofs.item_after.Kinds as item-after-kinds
use Rattle.link_items.proofs.item_after.Reads as item-after-reads

pub items-one : WrittenOne items.ended (λ M 𝓤. items.clauses {M = M} {𝓤 = 𝓤})
items-one =
    record {
      total = λ M 𝓤 𝓛 m run κs a g. id⊢ 𝓤 (emp 𝓤);
      one = λ M 𝓤 𝓛 m run κs a g x y v w. of-fact 𝓤 (λ p q. (both p q, refl));
    }

pub next_one : WrittenOne next.ended (λ M 𝓤. next.clauses {M = M} {𝓤 = 𝓤})
next_one =
    record {
      total = λ M 𝓤 𝓛 m run κs a g. id⊢ 𝓤 (emp 𝓤);
      one = λ M 𝓤 𝓛 m run κs a g x y v w. of-fact 𝓤 (λ p q. (both p.0 q.0, pair (both p.1 q.1) refl));
    }

pub step-from-one : One step-from-kinds.ps step-from-kinds.r step-from-reads.Asked step-from-reads.Learnt
step-from-one = record { total = λ κs a. tt; one = λ κs a x y v w p q. (both p q, refl) }

pub item-after-one : One item-after-kinds.ps item-after-kinds.r item-after-reads.Asked item-after-reads.Learnt
item-after-one = record { total = λ κs a. tt; one = λ κs a x y v w p q. (both p q, refl) }
