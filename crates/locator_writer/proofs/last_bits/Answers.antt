use native.Mathlib.Omega.{arith}
use borrow.Author.Rules.{rules}
use Rattle.locator_writer.proofs.last_bits.Goals as goal

pub returns-in-Triplet : goal.returns-in-Triplet
returns-in-Triplet c =
    rw c.in-Triplet.is (omega (arith, c.low.ensures), omega (arith, c.low.ensures))

pub returns-in-Full : goal.returns-in-Full
returns-in-Full c =
    rw c.in-Full.is (omega (arith, c.low-in-Full.ensures), omega (arith, c.low-in-Full.ensures))
