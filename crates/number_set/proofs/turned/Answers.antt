use Prim.Native.Nat.{◌%◌}
use mathlib.Core.Bool.{true}
use native.Mathlib.Omega.{arith}
use lib.Bits.{and_le_l}
use Rattle.number_set.proofs.Bits.{turned_on, turned-off, turn-lt}
use borrow.Author.Rules.{rules}
use Rattle.number_set.proofs.turned.Goals as goal

pub overflow_sub-rest : goal.overflow_sub-rest
overflow_sub-rest c = and_le_l c.args.word _

pub overflow_add-result : goal.overflow_add-result
overflow_add-result c =
    let a = c.args in
    record { fits = rw (turned_on a.word (a.k % 64) (omega arith) c.ranges.word.fits) (turn-lt a.word (a.k % 64) true) }

pub returns-then-member : goal.returns-then-member
returns-then-member c =
    let a = c.args in
    rw c.if-member.true (turned_on a.word (a.k % 64) (omega arith) c.ranges.word.fits)

pub returns-else-member : goal.returns-else-member
returns-else-member c =
    let a = c.args in
    rw c.if-member.false (turned-off a.word (a.k % 64) (omega arith) c.ranges.word.fits)
