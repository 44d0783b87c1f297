use mathlib.Core.Path.{sym, ◌∙◌}
use native.Mathlib.Omega.{arith}
use Rattle.link_items.proofs.Laws.{moved-got, moved-not, got-below}
use Rattle.link_items.proofs.step_at.Goals as goal

pub overflow_add-result : goal.overflow_add-result
overflow_add-result c =
    let read-item = c.read_item-item in
    omega (arith, got-below _ _ _ _ (sym read-item.ensures ∙ c.in-Ok.is))

pub returns-in-Ok : goal.returns-in-Ok
returns-in-Ok c =
    let read-item = c.read_item-item in
    rw (moved-got _ _ _ _ (sym read-item.ensures ∙ c.in-Ok.is), ← read-item.ensures) (cc)

pub returns-in-Err : goal.returns-in-Err
returns-in-Err c =
    let read-item = c.read_item-item in
    rw (moved-not _ _ _ _ (sym read-item.ensures ∙ c.in-Err.is), ← read-item.ensures) (cc)
