use Prim.Native.Nat.{◌+◌, ◌-◌, ◌≤◌}
use mathlib.Core.Path.{◌≡◌, ap, ◌∙◌}
use native.Mathlib.Omega.{arith}
use lib.ListN.{length}
use lib.Seq.{length-sets}
use Rattle.byte_moves.specs.Stages.{moved_up}
use Rattle.byte_moves.proofs.Steps.{up_none, up_more, up-all, byte-moved}
use borrow.Author.Rules.{rules}
use Rattle.byte_moves.proofs.up.bytes_up.Goals as goal

pub loop-i-init : goal.loop-i-init
loop-i-init c =
    let args = c.args in
    let pre = c.requires in
    let all : args.n ≡ args.n - 0 = omega arith in
    (search rules, up_none args.b.now args.from args.to args.n pre.0 pre.1 ∙ ap (moved_up args.b.now args.from args.to args.n) all)

pub bounds-b-from : goal.bounds-b-from
bounds-b-from c =
    let loop = c.loop-i in
    omega (arith, simp length-sets at (ap length loop.invariant.1))

pub bounds-b-to : goal.bounds-b-to
bounds-b-to c =
    let loop = c.loop-i in
    omega (arith, simp length-sets at (ap length loop.invariant.1))

pub loop-i-preserved : goal.loop-i-preserved
loop-i-preserved c =
    let args = c.args in
    let pre = c.requires in
    let loop = c.loop-i in
    let size = simp length-sets at (ap length loop.invariant.1) in
    let left = args.n - 1 - loop.i in
    let next : left ≡ args.n - (loop.i + 1) = omega arith in
    (search rules, up_more args.b.now args.from args.to args.n pre.0 pre.1 _ _ (args.n - loop.i) left 1 loop.invariant.1 (omega arith) (omega arith) (byte-moved loop.b (args.from + left) (args.to + left) (omega arith)) ∙ ap (moved_up args.b.now args.from args.to args.n) next)

pub shape_of-b : goal.shape_of-b
shape_of-b c =
    let loop = c.loop-i in
    simp length-sets at (ap length loop.invariant.1)

pub returns : goal.returns
returns c =
    let loop = c.loop-i in
    let args = c.args in
    let pre = c.requires in
    let none : args.n - loop.i ≡ 0 = omega arith in
    loop.invariant.1 ∙ ap (moved_up args.b.now args.from args.to args.n) none ∙ up-all args.b.now args.from args.to args.n pre.0 pre.1
