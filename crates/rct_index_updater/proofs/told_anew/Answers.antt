use native.Mathlib.Omega.{arith}
use Rattle.rct_index.specs.Editing.{told_anew}
use Rattle.rct_index_updater.proofs.Steps.{step-first, step-on, step-last}
use Rattle.rct_index_updater.proofs.told_anew.Goals as goal

pub loop-j-init : goal.loop-j-init
loop-j-init c =
    let args = c.args in
    (omega arith, (omega arith, step-first args.number args.count args.at args.old args.new args.index.places))

pub loop-j-preserved : goal.loop-j-preserved
loop-j-preserved c =
    let args = c.args in
    let loop = c.loop-j in
    let step = step-on args.number args.count args.at args.old args.new args.index.places loop.j loop.invariant.0 _ in
    (omega arith, (omega arith, rw loop.invariant.1.1 (step (rw loop.invariant.1.1 at c.moved.ensures))))

pub returns : goal.returns
unfolding told_anew
returns c =
    let args = c.args in
    let loop = c.loop-j in
    let done = step-last args.number args.count args.at args.old args.new args.index.places loop.j loop.invariant.0 loop.invariant.1.0 c.loop-j-test.false in
    rw (c.with.ensures, loop.invariant.1.1, done)
