use native.Mathlib.Omega.{arith}
use borrow.Author.Rules.{rules}
use Rattle.link_checker.proofs.check_ranged.Goals as goal

pub returns : goal.returns
returns c = (rw (c.check_range.ensures, c.check.ensures), omega arith)
