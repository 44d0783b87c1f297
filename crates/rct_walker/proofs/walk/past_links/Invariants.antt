use Prim.Native.Nat.{◌-◌, ◌≤◌}
use mathlib.Core.Path.{◌≡◌}
use Rattle.rct.specs.Reading.{after, links_verdict}
use Rattle.rct_blocks.specs.Ends.{end_of}
use Rattle.rct_walker.proofs.walk.past_links.Given as goal

abbrev pub invariant-loop : goal.invariant-loop
invariant-loop l = (l.p ≤ end_of l.payload) × ((l.counter ≤ l.n) × ((l.p ≡ after l.counter l.payload l.at) × (links_verdict (l.n - l.counter) l.payload (end_of l.payload) l.p ≡ links_verdict l.n l.payload (end_of l.payload) l.at)))
