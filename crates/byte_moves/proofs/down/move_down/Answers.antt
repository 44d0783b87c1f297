use Prim.Native.Nat.{◌+◌, ◌-◌}
use mathlib.Core.Path.{◌≡◌, ap, ◌∙◌}
use native.Mathlib.Omega.{arith}
use lib.ListN.{length}
use lib.Seq.{length-sets}
use Rattle.byte_moves.specs.Stages.{moved_down}
use Rattle.byte_moves.proofs.Steps.{down-more, down-all}
use borrow.Author.Rules.{rules}
use Rattle.byte_moves.proofs.down.move_down.Goals as goal

pub bytes_down-requires : goal.bytes_down-requires
bytes_down-requires c =
    let runs-down = c.runs_down-done in
    let size = simp length-sets at (ap length runs-down.ensures.1) in
    (omega arith, omega (arith, runs-down.ensures.0))

pub returns : goal.returns
returns c =
    let runs-down = c.runs_down-done in
    let args = c.args in
    let pre = c.requires in
    let bytes_down = c.bytes_down in
    let all : runs-down.result + (args.n - runs-down.result) ≡ args.n = omega (arith, runs-down.ensures.0) in
    down-more args.b.now args.from args.to args.n pre.0 pre.1 _ _ runs-down.result (args.n - runs-down.result) runs-down.ensures.1 (omega arith) bytes_down.ensures ∙ ap (moved_down args.b.now args.from args.to args.n) all ∙ down-all args.b.now args.from args.to args.n pre.0 pre.1
