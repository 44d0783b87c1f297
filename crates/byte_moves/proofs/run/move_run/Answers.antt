use Prim.Native.Nat.{ℕ}
use lib.ListN.{replicate, length-replicate}
use Rattle.byte_moves.specs.Stages.{run}
use Rattle.byte_moves.proofs.Steps.{run_moved}
use Rattle.byte_moves.proofs.run.move_run.Goals as goal

pub returns : goal.returns
returns c =
    let args = c.args in
    let pre = c.requires in
    run_moved args.b.now (replicate run 0) _ _ args.from args.to run pre.0 pre.1 (length-replicate {A = ℕ} run 0) c.put_at.ensures.b_after c.put_at-2.ensures.b_after
