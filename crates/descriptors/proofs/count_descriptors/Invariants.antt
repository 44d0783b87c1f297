use Prim.Native.Nat.{◌-◌}
use native.Mathlib.Omega.{arith}
use lib.ListN.{length}
use Rattle.descriptors.proofs.Answers.{number-counted, refused-counted}
use Rattle.descriptors.proofs.Walks.{Walking, walk_start, walk-on, walk-cut, walk-done}
use borrow.Author.Rules.{rules}
use Rattle.descriptors.proofs.count_descriptors.Given as goal

abbrev pub invariant-loop-p : goal.invariant-loop-p
invariant-loop-p l = Walking l.s l.start l.p l.n

abbrev pub decreases-loop-p : goal.decreases-loop-p
decreases-loop-p l = length l.s - l.p
