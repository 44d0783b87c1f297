use Prim.Native.Nat.{◌-◌, ◌≤◌}
use mathlib.Core.Path.{◌≡◌}
use Rattle.byte_moves.specs.Stages.{moved_up}
use Rattle.byte_moves.proofs.up.bytes_up.Given as goal

abbrev pub invariant-loop-i : goal.invariant-loop-i
invariant-loop-i l = (l.i ≤ l.n) × (l.b ≡ moved_up l.initial.b l.from l.to l.n (l.n - l.i))
