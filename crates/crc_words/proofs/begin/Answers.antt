use Prim.Native.Nat.{◌-◌, ◌%◌}
use native.Mathlib.Omega.{arith}
use lib.ListN.{length}
use borrow.Author.Rules.{rules}
use Rattle.wire.proofs.Lists.{bytes-known}
use Rattle.crc_words.proofs.Steps.{first-bytes}
use Rattle.crc_words.proofs.begin.Goals as goal

-- Assumes nothing.
pub returns : goal.returns
returns c =
    let args = c.args in
    let s = args.s.now in
    record {
      at_bound = search rules;
      result_value = first-bytes s (bytes-known s c.type_inv.s) ((length s - 1) % 8) (omega arith) (omega arith) c.word_at.ensures;
    }
