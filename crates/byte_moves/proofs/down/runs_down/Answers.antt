use mathlib.Core.Path.{ap}
use native.Mathlib.Omega.{arith}
use lib.ListN.{length}
use lib.Seq.{length-sets}
use Rattle.byte_moves.specs.Stages.{run}
use Rattle.byte_moves.proofs.Steps.{down-more}
use borrow.Author.Rules.{rules}
use Rattle.byte_moves.proofs.down.runs_down.Goals as goal

pub move_run-requires : goal.move_run-requires
move_run-requires c =
    let loop = c.loop-done in
    let size = simp length-sets at (ap length loop.invariant.1) in
    (omega arith, omega arith)

pub loop-done-preserved : goal.loop-done-preserved
loop-done-preserved c =
    let args = c.args in
    let pre = c.requires in
    let loop = c.loop-done in
    let move-run = c.move_run in
    (search rules, down-more args.b.now args.from args.to args.n pre.0 pre.1 _ _ loop.done run loop.invariant.1 (omega arith) move-run.ensures)

pub shape_of-b : goal.shape_of-b
shape_of-b c =
    let loop = c.loop-done in
    simp length-sets at (ap length loop.invariant.1)
