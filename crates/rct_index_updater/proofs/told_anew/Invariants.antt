use Prim.Native.Nat.{◌+◌, ◌≤◌, ◌<◌, max}
use mathlib.Core.Path.{◌≡◌}
use Rattle.rct_index_updater.proofs.Steps.{up_to}
use Rattle.rct_index_updater.proofs.told_anew.Given as goal

abbrev pub invariant-loop-j : goal.invariant-loop-j
invariant-loop-j l =
    (l.number < l.j) × ((l.j ≤ max (l.number + 1) l.count) × (l.places ≡ up_to l.number l.count l.at l.old l.new l.index.places l.j))
