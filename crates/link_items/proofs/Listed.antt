-- Which numbers a step of the item reader can answer at all: the body's 6 to 16, and 21.
-- Assumes nothing.
use Prim.Native.Nat.{ℕ}
use mathlib.Core.Path.{◌≡◌}
use mathlib.Core.Bool.{true}
use mathlib.Core.List.{List}
use Rattle.wire.specs.declared.verdict.Refusal.{Refusal}
use Rattle.wire.proofs.Among.{listed}
use Rattle.link.proofs.Listed.{item_reading, item-read-listed}
use Rattle.link_items.specs.Steps.{stepped}
use Rattle.std.specs.Prelude.{Err}

pub step-listed : (xs : List ℕ) (n : ℕ) (r : Refusal) → (stepped xs n).item ≡ Err r → listed r.number item_reading ≡ true
step-listed xs n = item-read-listed 0 xs n
