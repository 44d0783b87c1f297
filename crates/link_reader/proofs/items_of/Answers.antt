use Prim.Native.Nat.{◌+◌, ◌-◌}
use mathlib.Core.Path.{◌≡◌, ap}
use native.Mathlib.Omega.{arith}
use Rattle.wire.proofs.Lists.{bytes-known}
use Rattle.link.specs.Syntax.{item_head}
use Rattle.link.specs.Reading.{items_place}
use Rattle.link_reader.proofs.Filled.{filled_none, filled_within, filled-turn, filled-all}
use Rattle.link_reader.proofs.items_of.Goals as goal

pub overflow_sub-p : goal.overflow_sub-p
overflow_sub-p c = omega (arith, c.requires.2)

pub none-none-requires : goal.none-none-requires
none-none-requires c = tt

pub loop-i-init : goal.loop-i-init
loop-i-init c =
    let args = c.args in
    let pre = c.requires in
    let first : args.items_at - args.base ≡ items_place args.s.now = omega (arith, pre.2) in
    filled_none args.base args.s.now _ _ _ (bytes-known args.s.now c.type_inv.s) pre.0 pre.1 first c.none-none.ensures

pub item_at-item-requires : goal.item_at-item-requires
item_at-item-requires c =
    let args = c.args in
    filled_within args.base _ _ _ _ _ _ c.loop-i.invariant c.loop-i-test.true (omega arith)

pub offset_bounds-items-i : goal.offset_bounds-items-i
offset_bounds-items-i c = omega (arith, c.loop-i.invariant.few)

pub bounds-items-i : goal.bounds-items-i
bounds-items-i c = omega (arith, c.loop-i.invariant.few)

pub overflow_add-p : goal.overflow_add-p
overflow_add-p c = omega (arith, (filled_within c.args.base _ _ _ _ _ _ c.loop-i.invariant c.loop-i-test.true (omega arith)).0)

pub overflow_cast-p-in-loop-i : goal.overflow_cast-p-in-loop-i
overflow_cast-p-in-loop-i c = omega arith

pub overflow_add-p-in-loop-i : goal.overflow_add-p-in-loop-i
overflow_add-p-in-loop-i c = omega (arith, (filled_within c.args.base _ _ _ _ _ _ c.loop-i.invariant c.loop-i-test.true (omega arith)).0)

pub loop-i-preserved : goal.loop-i-preserved
loop-i-preserved c =
    let item = c.item_at-item.ensures in
    filled-turn c.args.base _ _ _ _ _ _ c.loop-i.invariant c.loop-i-test.true _ _ item (ap (λ i. c.loop-i.p + item_head + i.promotional_text.length) item)

pub returns : goal.returns
returns c =
    let args = c.args in
    filled-all args.base args.s.now _ _ _ _ _ c.loop-i.invariant c.loop-i-test.false
