use native.Mathlib.Omega.{arith}
use borrow.Author.Rules.{rules}
use Rattle.locator_reader.proofs.service_end.Goals as goal

pub returns-then-inline : goal.returns-then-inline
returns-then-inline c = (simp (← c.inline.ensures, c.if-inline.true), omega arith)

pub returns-else-inline : goal.returns-else-inline
returns-else-inline c = (simp (← c.inline.ensures, c.if-inline.false), omega arith)
