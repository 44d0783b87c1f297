use Rattle.link_reader.proofs.Numbered.{step-within, step-got, step-not}
use borrow.Author.Rules.{rules}
use native.Mathlib.Omega.{arith}
use Rattle.wire.proofs.Verdicts.{handed-on}
use mathlib.Core.Path.{◌∙◌}
use Rattle.link_reader.proofs.item_from.Goals as goal

pub item_at-requires : goal.item_at-requires
item_at-requires c =
    let start = c.args in
    let e = c.told-t.ensures in
    let w = c.past_item.ensures in
    let k = step-within start.s.now _ e start.at _ w _ c.in_ok-next.was in
    (k.0, omega (arith, k.1.0))

pub overflow_cast-result : goal.overflow_cast-result
overflow_cast-result c =
    let start = c.args in
    let e = c.told-t.ensures in
    let w = c.past_item.ensures in
    omega (arith, (step-within start.s.now _ e start.at _ w _ c.in_ok-next.was).1.1)

pub returns : goal.returns
returns c =
    let start = c.args in
    let e = c.told-t.ensures in
    let w = c.past_item.ensures in
    step-got start.s.now _ e start.at _ w _ c.in_ok-next.was _ c.item_at.ensures

pub returns-in_err-next : goal.returns-in_err-next
returns-in_err-next c =
    let start = c.args in
    let e = c.told-t.ensures in
    let w = c.past_item.ensures in
    handed-on _ _ c.from_residual.ensures ∙ step-not start.s.now _ e start.at _ w _ c.in_err-next.was
