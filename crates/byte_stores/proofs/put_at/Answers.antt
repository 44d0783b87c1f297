use Prim.Native.Nat.{◌≤◌, ◌<◌, ◌+◌, ◌-◌}
use mathlib.Core.Path.{◌≡◌, sym, ap, ◌∙◌}
use native.Mathlib.Omega.{arith}
use lib.ListN.{length, take}
use lib.Seq.{sets, length-sets, take-length}
use borrow.Author.Rules.{rules}
use borrow.Author.Tests.{le-leb, lt-leb}
use Rattle.byte_stores.specs.Stores.{room_at}
use Rattle.byte_stores.proofs.Writing.{copied_more}
use Rattle.byte_stores.proofs.put_at.Goals as goal

pub returns-then-b-n : goal.returns-then-b-n
returns-then-b-n c =
    let a = c.args in
    let h : length a.b.now < a.at + length a.t.now = omega arith in
    record { value = sym (lt-leb _ _ h); b_after = simp (lt-leb _ _ h) }

pub returns-then-b-n-2 : goal.returns-then-b-n-2
returns-then-b-n-2 c =
    let a = c.args in
    let h : length a.b.now < a.at + length a.t.now = omega arith in
    record { value = sym (lt-leb _ _ h); b_after = simp (lt-leb _ _ h) }

pub bounds-b-at : goal.bounds-b-at
bounds-b-at c =
    let loop = c.loop-i in
    let args = c.args in
    omega (arith, ap length loop.invariant.1, length-sets args.b.now args.at (take loop.i args.t.now))

pub loop-i-preserved : goal.loop-i-preserved
loop-i-preserved c =
    let a = c.args in
    let l = c.loop-i in
    (search rules, rw l.invariant.1 (copied_more a.b.now a.t.now a.at l.i (omega arith)))

pub shape_of-b : goal.shape_of-b
shape_of-b c =
    let args = c.args in
    ap length c.loop-i.invariant.1 ∙ length-sets args.b.now args.at (take c.loop-i.i args.t.now)

pub returns : goal.returns
returns c =
    let a = c.args in
    let l = c.loop-i in
    let h : a.at + length a.t.now ≤ length a.b.now = omega arith in
    let e : l.i ≡ length a.t.now = omega arith in
    record { value = sym (le-leb _ _ h); b_after = simp (le-leb _ _ h) (l.invariant.1 ∙ ap (λ k. sets a.b.now a.at (take k a.t.now)) e ∙ ap (sets a.b.now a.at) (take-length a.t.now)) }
