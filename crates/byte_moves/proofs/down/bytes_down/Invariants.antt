use Prim.Native.Nat.{◌+◌, ◌-◌, ◌≤◌}
use mathlib.Core.Path.{◌≡◌, ap, ◌∙◌}
use native.Mathlib.Omega.{arith}
use lib.ListN.{length}
use lib.Seq.{length-sets}
use Rattle.byte_moves.specs.Stages.{moved_down}
use Rattle.byte_moves.proofs.Steps.{down-more, down-all, byte-moved}
use borrow.Author.Rules.{rules}
use Rattle.byte_moves.proofs.down.bytes_down.Given as goal

abbrev pub invariant-loop-i : goal.invariant-loop-i
invariant-loop-i l = (l.i ≤ l.n) × (l.b ≡ moved_down l.initial.b l.from l.to l.n l.i)
