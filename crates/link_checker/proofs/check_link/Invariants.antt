use Prim.Native.Nat.{◌*◌, ◌≤◌}
use mathlib.Core.Path.{◌≡◌}
use lib.ListN.{drop}
use Rattle.link_checker.specs.Stages.{joined, texts_checked, most_range}
use Rattle.link_checker.proofs.check_link.Given as goal

abbrev pub invariant-loop-item : goal.invariant-loop-item
invariant-loop-item l =
    (joined l.texts (texts_checked l.have (drop l.item-index l.item-items)) ≡ texts_checked l.have l.item-items) × (l.texts.length ≤ l.item-index * most_range)
