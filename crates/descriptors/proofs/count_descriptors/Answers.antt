use Prim.Native.Nat.{◌-◌}
use native.Mathlib.Omega.{arith}
use lib.ListN.{length}
use Rattle.descriptors.proofs.Answers.{number-counted, refused-counted}
use Rattle.descriptors.proofs.Walks.{Walking, walk_start, walk-on, walk-cut, walk-done}
use borrow.Author.Rules.{rules}
use Rattle.descriptors.proofs.count_descriptors.Goals as goal

pub loop-p-init : goal.loop-p-init
loop-p-init c = walk_start c.args.s.now c.args.start

pub returns-then-front-eq0 : goal.returns-then-front-eq0
returns-then-front-eq0 c = refused-counted _ _ _ (walk-cut _ _ _ _ _ _ c.loop-p-test.true c.count_front-front.ensures c.loop-p.invariant (omega arith) c.if-front-eq0.true)

pub overflow_sub-p : goal.overflow_sub-p
overflow_sub-p c = omega (arith, (walk-on _ _ _ _ _ _ c.loop-p-test.true c.count_front-front.ensures c.loop-p.invariant).inside)

pub overflow_add-n : goal.overflow_add-n
overflow_add-n c = omega (arith, (walk-on _ _ _ _ _ _ c.loop-p-test.true c.count_front-front.ensures c.loop-p.invariant).room)

pub loop-p-smaller : goal.loop-p-smaller
loop-p-smaller c = omega (arith, (walk-on _ _ _ _ _ _ c.loop-p-test.true c.count_front-front.ensures c.loop-p.invariant).ahead)

pub loop-p-preserved : goal.loop-p-preserved
loop-p-preserved c = (walk-on _ _ _ _ _ _ c.loop-p-test.true c.count_front-front.ensures c.loop-p.invariant).next

pub returns : goal.returns
returns c =
    let done = walk-done _ _ _ _ c.loop-p-test.false c.loop-p.invariant in
    number-counted _ _ _ done.0 done.1
