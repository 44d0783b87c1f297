use Prim.Native.Nat.{◌-◌}
use mathlib.Core.Path.{ap}
use native.Mathlib.Omega.{arith}
use lib.ListN.{length}
use lib.Seq.{length-sets}
use Rattle.byte_moves.specs.Stages.{run}
use Rattle.byte_moves.proofs.Steps.{up_none, up_more}
use borrow.Author.Rules.{rules}
use Rattle.byte_moves.proofs.up.runs_up.Goals as goal

pub loop-left-init : goal.loop-left-init
loop-left-init c =
    let args = c.args in
    let pre = c.requires in
    (search rules, up_none args.b.now args.from args.to args.n pre.0 pre.1)

pub move_run-requires : goal.move_run-requires
move_run-requires c =
    let loop = c.loop-left in
    let size = simp length-sets at (ap length loop.invariant.1) in
    (omega arith, omega arith)

pub loop-left-preserved : goal.loop-left-preserved
loop-left-preserved c =
    let args = c.args in
    let pre = c.requires in
    let loop = c.loop-left in
    let move-run = c.move_run in
    (search rules, up_more args.b.now args.from args.to args.n pre.0 pre.1 _ _ loop.left (loop.left - run) run loop.invariant.1 loop.invariant.0 (omega arith) move-run.ensures)

pub shape_of-b : goal.shape_of-b
shape_of-b c =
    let loop = c.loop-left in
    simp length-sets at (ap length loop.invariant.1)
