use borrow.Author.Rules.{rules}
use Rattle.frame_opening.proofs.unmet_by.Goals as goal

pub returns-then-demands : goal.returns-then-demands
returns-then-demands c = rw (c.if-demands.true, c.syntax_indicator.ensures)

pub returns : goal.returns
returns c = rw c.if-demands.false
