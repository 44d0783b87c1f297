use Prim.Native.Nat.{◌-◌, ◌≤◌, ◌<◌, ◌^◌}
use Rattle.link.specs.Reading.{items_verdict, item_place}
use Rattle.wire.specs.Verdict.{reached}
use mathlib.Core.Path.{◌≡◌}
use Rattle.item_walker.proofs.past_items.Given as goal

abbrev pub invariant-loop : goal.invariant-loop
invariant-loop l = (l.counter ≤ l.n) × (l.p < 2 ^ 63) × (reached (items_verdict (l.n - l.counter) l.s l.p) (item_place (l.n - l.counter) l.s l.p) ≡ reached (items_verdict l.n l.s l.at) (item_place l.n l.s l.at))
