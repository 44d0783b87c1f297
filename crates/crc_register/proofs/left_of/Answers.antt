use borrow.Author.Rules.{rules}
use Rattle.crc_register.specs.Remainder.{remainder}
use Rattle.crc_register.proofs.left_of.Goals as goal

-- Assumes nothing.
pub returns : goal.returns
unfolding remainder
returns c = rw c.shift_32.ensures
