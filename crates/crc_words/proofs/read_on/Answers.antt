use mathlib.Core.Path.{refl}
use native.Mathlib.Omega.{arith}
use borrow.Author.Rules.{rules}
use Rattle.wire.proofs.Lists.{bytes-known}
use Rattle.crc_words.proofs.Steps.{folded_read}
use Rattle.crc_words.proofs.read_on.Goals as goal

-- Assumes nothing.
pub returns : goal.returns
returns c =
    let a = c.args in
    let s = a.s.now in
    let n = c.fold_two-n.type_inv in (
      refl,
      folded_read s (bytes-known s c.type_inv.s) a.m.at c.word_at.ensures a.m.word a.m.next
          (omega arith) (omega (arith, n), (omega (arith, n), tt)) c.fold_two-n.ensures,
    )
