use native.Mathlib.Omega.{arith}
use borrow.Author.Tests.{eq-eqb, ne_eqb}
use borrow.Author.Rules.{rules}
use Rattle.locator_reader.proofs.tail_length.Goals as goal

pub returns-then-windows_due : goal.returns-then-windows_due
returns-then-windows_due c = (simp (← c.windows_due.ensures, c.if-windows_due.true), omega arith)

pub returns-then-head-eq0 : goal.returns-then-head-eq0
returns-then-head-eq0 c =
    let windows-due = c.windows_due in
    (simp (← windows-due.ensures, c.if-windows_due.false) (simp (eq-eqb _ _ c.if-head-eq0.true)), omega arith)

pub returns-then-head-eq3 : goal.returns-then-head-eq3
returns-then-head-eq3 c = (simp (ne_eqb _ _ c.if-head-eq0.false, eq-eqb _ _ c.if-head-eq3.true), omega arith)

pub returns : goal.returns
returns c = (simp (ne_eqb _ _ c.if-head-eq0.false, ne_eqb _ _ c.if-head-eq3.false), omega arith)
