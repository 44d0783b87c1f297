use Prim.Native.Nat.{◌+◌, ◌-◌, ◌≤◌, ◌<◌}
use Rattle.link.proofs.Items.{item-passed}
use Rattle.link.proofs.Turns.{items-stop, items-none}
use Rattle.item_walker.proofs.Stages.{turn_on}
use Rattle.wire.proofs.Verdicts.{reached-at, reached-refused, at-reached, refused-reached, handed-on}
use mathlib.Core.Path.{◌≡◌, sym, ◌∙◌}
use native.Mathlib.Omega.{arith}
use Rattle.item_walker.proofs.past_items.Goals as goal

pub loop-init : goal.loop-init
loop-init c =
    let all : c.args.n - 0 ≡ c.args.n = omega arith in
    (omega arith, omega arith, rw all)

pub returns-in_err-p : goal.returns-in_err-p
returns-in_err-p c =
    let past = c.past in
    let s = c.args.s.now in
    let l = c.loop in
    let v = reached-refused _ _ _ (sym past.ensures ∙ c.in_err-p.was) in
    let left : 0 < c.args.n - l.counter = omega arith in
    handed-on _ _ c.from_residual.ensures ∙ refused-reached _ _ _ (items-stop (c.args.n - l.counter) s l.p left _ v) ∙ l.invariant.2

pub loop-preserved : goal.loop-preserved
loop-preserved c =
    let past = c.past in
    let s = c.args.s.now in
    let l = c.loop in
    let g = reached-at _ _ _ (sym past.ensures ∙ c.in_ok-p.was) in
    let left : 0 < c.args.n - l.counter = omega arith in
    let next : c.args.n - (l.counter + 1) ≡ c.args.n - l.counter - 1 = omega arith in
    rw (← g.1, next) (omega arith, omega (arith, item-passed s l.p g.0), turn_on s (c.args.n - l.counter) l.p left g.0 ∙ l.invariant.2)

pub returns : goal.returns
returns c =
    let s = c.args.s.now in
    let l = c.loop in
    let done : c.args.n - l.counter ≤ 0 = omega arith in
    let none = items-none (c.args.n - l.counter) s l.p done in
    at-reached _ _ _ none.0 none.1 ∙ l.invariant.2
