use native.Mathlib.Omega.{arith}
use Rattle.locator.specs.Syntax.{locator_length}
use borrow.Author.Rules.{rules}
use Rattle.locator_length.proofs.length_of.Goals as goal

pub returns : goal.returns
unfolding locator_length
returns c = omega arith
