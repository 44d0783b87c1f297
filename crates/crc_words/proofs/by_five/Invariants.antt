use Prim.Native.Nat.{◌+◌, ◌-◌, ◌%◌, ◌≤◌}
use mathlib.Core.Path.{◌≡◌, refl, ◌∙◌}
use lib.ListN.{length}
use borrow.Author.Rules.{rules}
use Rattle.crc_words.specs.Words.{due_five}
use Rattle.crc_words.proofs.by_five.Given as goal

abbrev pub invariant-loop-n : goal.invariant-loop-n
invariant-loop-n l = (l.n.at + 40 ≤ length l.s) × ((length l.s - l.n.at) % 16 ≡ 8) × (due_five l.s l.n ≡ due_five l.s l.initial.n)

abbrev pub decreases-loop-n : goal.decreases-loop-n
decreases-loop-n l = length l.s - l.n.at
