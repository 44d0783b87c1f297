use native.Mathlib.Omega.{arith}
use borrow.Author.Rules.{rules}
use Rattle.locator_reader.proofs.windows_at.Goals as goal

pub bounds-s-at : goal.bounds-s-at
bounds-s-at c =
    let windows-due = c.windows_due in
    let pre = c.requires in
    omega (arith, simp (← windows-due.ensures, c.if-windows_due.true) at pre)

pub overflow_cast-both : goal.overflow_cast-both
overflow_cast-both c =
    let args = c.args in
    omega (arith, c.type_inv.s args.at)

pub returns-then-windows_due : goal.returns-then-windows_due
returns-then-windows_due c =
    let if1 = c.if-windows_due in
    let windows-due = c.windows_due in
    simp (← windows-due.ensures, if1.true) (rw (c.low-then-windows_due.ensures, c.low.ensures))

pub returns-else-windows_due : goal.returns-else-windows_due
returns-else-windows_due c = simp (← c.windows_due.ensures, c.if-windows_due.false)
