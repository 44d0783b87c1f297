use mathlib.Core.Path.{◌≡◌, refl, sym, ap, ◌∙◌}
use native.Mathlib.Omega.{arith}
use Rattle.link.specs.Answers.{item_read}
use Rattle.link_items.specs.Steps.{number_after}
use Rattle.link_items.proofs.Laws.{number-on, refused-stays}
use Rattle.link_items.proofs.item_after.Goals as goal

pub loop-number-init : goal.loop-number-init
unfolding number_after
loop-number-init c = (omega arith, refl)

pub returns-in-Err : goal.returns-in-Err
returns-in-Err c =
    let step_from = c.step_from-step in
    let start = c.args in
    let xs = start.body.now in
    let l = c.loop-number in
    let told = sym (ap (λ s. s.item) step_from.ensures) ∙ c.in-Err.is in
    c.in-Err.is ∙ sym (refused-stays xs l.number start.steps _ l.invariant.0 (ap (item_read 0 xs) l.invariant.1 ∙ told))

pub loop-number-preserved : goal.loop-number-preserved
loop-number-preserved c =
    let step_from = c.step_from-step in
    let xs = c.args.body.now in
    let l = c.loop-number in
    let test = c.loop-number-test.true in
    let told = sym (ap (λ s. s.item) step_from.ensures) ∙ c.in-Ok.is in
    (omega arith, number-on xs l.number _ l.invariant.1 told)

pub returns : goal.returns
returns c =
    let start = c.args in
    let xs = start.body.now in
    let l = c.loop-number in
    let at : l.number ≡ start.steps = omega (arith, l.invariant.0, c.loop-number-test.false) in
    ap (λ s. s.item) c.step_from-last.ensures ∙ sym (ap (item_read 0 xs) (sym (ap (number_after xs) at) ∙ (l.invariant.1 ∙ at)))
