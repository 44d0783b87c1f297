use borrow.Author.Rules.{rules}
use Rattle.flat_locator.proofs.FlatWindows.windows.Goals as goal

pub returns-then-is_set : goal.returns-then-is_set
returns-then-is_set c = rw (← c.is_set.ensures, c.if-is_set.true)

pub returns : goal.returns
returns c = rw (← c.is_set.ensures, c.if-is_set.false)
