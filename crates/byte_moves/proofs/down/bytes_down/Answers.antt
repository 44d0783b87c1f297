use Prim.Native.Nat.{◌+◌, ◌-◌, ◌≤◌}
use mathlib.Core.Path.{◌≡◌, ap, ◌∙◌}
use native.Mathlib.Omega.{arith}
use lib.ListN.{length}
use lib.Seq.{length-sets}
use Rattle.byte_moves.specs.Stages.{moved_down}
use Rattle.byte_moves.proofs.Steps.{down-more, down-all, byte-moved}
use borrow.Author.Rules.{rules}
use Rattle.byte_moves.proofs.down.bytes_down.Goals as goal

pub bounds-b-from : goal.bounds-b-from
bounds-b-from c =
    let loop = c.loop-i in
    omega (arith, simp length-sets at (ap length loop.invariant.1))

pub bounds-b-to : goal.bounds-b-to
bounds-b-to c =
    let loop = c.loop-i in
    omega (arith, simp length-sets at (ap length loop.invariant.1))

pub loop-i-preserved : goal.loop-i-preserved
loop-i-preserved c =
    let args = c.args in
    let pre = c.requires in
    let loop = c.loop-i in
    let size = simp length-sets at (ap length loop.invariant.1) in
    (search rules, down-more args.b.now args.from args.to args.n pre.0 pre.1 _ _ loop.i 1 loop.invariant.1 (omega arith) (byte-moved loop.b (args.from + loop.i) (args.to + loop.i) (omega arith)))

pub shape_of-b : goal.shape_of-b
shape_of-b c =
    let loop = c.loop-i in
    simp length-sets at (ap length loop.invariant.1)

pub returns : goal.returns
returns c =
    let loop = c.loop-i in
    let args = c.args in
    let pre = c.requires in
    let all : loop.i ≡ args.n = omega arith in
    loop.invariant.1 ∙ ap (moved_down args.b.now args.from args.to args.n) all ∙ down-all args.b.now args.from args.to args.n pre.0 pre.1
