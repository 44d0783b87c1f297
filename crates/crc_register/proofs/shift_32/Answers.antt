use native.Mathlib.Omega.{arith}
use borrow.Author.Rules.{rules}
use Rattle.crc_register.proofs.Loops.{idle-four}
use Rattle.crc_register.proofs.shift_32.Goals as goal

-- Assumes nothing.
pub returns : goal.returns
returns c =
    let r = c.args.r in
    idle-four r _ _ _ _ (omega arith) c.clock_byte.ensures c.clock_byte-2.ensures c.clock_byte-3.ensures c.clock_byte-4.ensures
