use Rattle.link_reader.proofs.Numbered.{count-within, numbered-21, numbered-never, numbered_within, numbered-got}
use Rattle.link.proofs.Bounds.{count-far}
use Rattle.wire.proofs.Lists.{bytes-known}
use borrow.Author.Rules.{rules}
use mathlib.Core.Path.{refl, ◌∙◌}
use native.Mathlib.Omega.{arith}
use Rattle.wire.proofs.Verdicts.{handed-on}
use Rattle.link_reader.proofs.item_numbered.Goals as goal

pub bounds-s-count_at : goal.bounds-s-count_at
bounds-s-count_at c = omega (arith, count-within c.args.s.now c.args.count_at _ c.args.number c.requires.0 c.requires.1 refl)

pub overflow_cast-s : goal.overflow_cast-s
overflow_cast-s c = omega (arith, c.type_inv.s c.args.count_at)

pub overflow_cast-n : goal.overflow_cast-n
overflow_cast-n c = omega arith

pub returns-then-n-number : goal.returns-then-n-number
returns-then-n-number c = numbered-21 c.args.s.now c.args.count_at _ c.args.number c.requires.0 c.requires.1 c.low-n.ensures c.args.base c.if-n-number.true

pub overflow_add-count_at : goal.overflow_add-count_at
overflow_add-count_at c = omega (arith, count-within c.args.s.now c.args.count_at _ c.args.number c.requires.0 c.requires.1 c.low-n.ensures)

pub overflow_cast-count_at : goal.overflow_cast-count_at
overflow_cast-count_at c = omega (arith, count-far c.args.s.now (bytes-known c.args.s.now c.type_inv.s), c.requires.1)

pub item_at-requires : goal.item_at-requires
item_at-requires c =
    let s = c.args.s.now in
    numbered_within s c.args.count_at _ c.args.number c.requires.0 c.requires.1 c.low-n.ensures c.if-n-number.false _ c.past_items.ensures _ c.in_ok-p.was c.args.base (bytes-known s c.type_inv.s) (omega arith)

pub returns : goal.returns
returns c = numbered-got c.args.s.now c.args.count_at _ c.args.number c.requires.0 c.requires.1 c.low-n.ensures c.if-n-number.false _ c.past_items.ensures _ c.in_ok-p.was c.args.base _ c.item_at.ensures

pub returns-in_err-p : goal.returns-in_err-p
returns-in_err-p c = handed-on _ _ c.from_residual.ensures ∙ absurd (numbered-never c.args.s.now c.args.count_at _ c.args.number c.requires.0 c.requires.1 c.low-n.ensures c.if-n-number.false _ c.past_items.ensures _ c.in_err-p.was)
