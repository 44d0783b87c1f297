use Prim.Native.Nat.{◌-◌}
use mathlib.Core.Path.{ap, ◌∙◌}
use native.Mathlib.Omega.{arith}
use lib.ListN.{length}
use lib.Seq.{length-sets}
use Rattle.byte_moves.proofs.Steps.{at-start, up_more, up-all}
use borrow.Author.Rules.{rules}
use Rattle.byte_moves.proofs.up.move_up.Goals as goal

pub bytes_up-requires : goal.bytes_up-requires
bytes_up-requires c =
    let pre = c.requires in
    let runs_up = c.runs_up-left in
    let size = simp length-sets at (ap length runs_up.ensures.1) in
    (pre.0, omega (arith, runs_up.ensures.0))

pub returns : goal.returns
returns c =
    let bytes_up = c.bytes_up in
    let args = c.args in
    let runs_up = c.runs_up-left in
    let pre = c.requires in
    let rest = bytes_up.ensures ∙ at-start _ args.from args.to runs_up.result in
    up_more args.b.now args.from args.to args.n pre.0 pre.1 _ _ runs_up.result 0 runs_up.result runs_up.ensures.1 runs_up.ensures.0 (omega arith) rest ∙ up-all args.b.now args.from args.to args.n pre.0 pre.1
