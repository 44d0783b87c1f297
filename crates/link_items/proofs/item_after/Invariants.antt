use Prim.Native.Nat.{◌≤◌}
use mathlib.Core.Path.{◌≡◌}
use Rattle.link_items.specs.Steps.{number_after}
use Rattle.link_items.proofs.item_after.Given as goal

abbrev pub invariant-loop-number : goal.invariant-loop-number
invariant-loop-number l = (l.number ≤ l.steps) × (number_after l.body l.number ≡ l.number)
