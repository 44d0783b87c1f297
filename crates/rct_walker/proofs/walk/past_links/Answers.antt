use Prim.Native.Nat.{◌-◌}
use mathlib.Core.Path.{◌≡◌, sym, ap, ◌∙◌}
use native.Mathlib.Omega.{arith}
use Rattle.length_field.specs.Lengths.{block_end}
use Rattle.wire.proofs.Verdicts.{at-reached, refused-reached, reached-at, reached-refused, handed-on}
use Rattle.rct.proofs.Links.{entry-passed}
use Rattle.rct_blocks.proofs.Entries.{after_next, turn_on, turn-stop}
use Rattle.rct_walker.proofs.Walks.{walk-done}
use Rattle.rct_walker.proofs.walk.past_links.Goals as goal

pub loop-init : goal.loop-init
loop-init c =
    let z : c.args.n - 0 ≡ c.args.n = omega arith in
    (omega arith, (omega arith, (omega arith, rw z)))

pub loop-preserved : goal.loop-preserved
loop-preserved c =
    let args = c.args in
    let past-entry = c.past_entry in
    let loop = c.loop in
    let loop-test = c.loop-test in
    let s = args.payload.now in
    let g = reached-at _ _ _ (sym past-entry.ensures ∙ c.in_ok-p.was) in
    let w = (entry-passed s _ _ g.0).within in
    (omega (arith, g.1), (omega arith, (sym g.1 ∙ ap (λ q. block_end s q) loop.invariant.1.1.0 ∙ sym (after_next loop.counter s args.at), rw (← g.1) (sym (turn_on s _ _ loop.counter _ loop-test.true g.0) ∙ loop.invariant.1.1.1))))

pub returns-in_err-p : goal.returns-in_err-p
returns-in_err-p c =
    let loop = c.loop in
    let args = c.args in
    let loop-test = c.loop-test in
    let past-entry = c.past_entry in
    handed-on _ _ c.from_residual.ensures ∙ refused-reached _ _ _ (sym loop.invariant.1.1.1 ∙ turn-stop args.payload.now _ _ loop.counter _ loop-test.true _ (reached-refused _ _ _ (sym past-entry.ensures ∙ c.in_err-p.was)))

pub returns : goal.returns
returns c =
    let args = c.args in
    let z : c.loop.counter ≡ args.n = omega arith in
    at-reached _ _ _ (sym c.loop.invariant.1.1.1 ∙ walk-done args.payload.now _ _ _ _ c.loop-test.false) (sym (rw z at c.loop.invariant.1.1.0))
