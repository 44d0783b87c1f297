use native.Mathlib.Omega.{arith}
use Rattle.crc_words.proofs.Folding.{two-law}
use Rattle.crc_words.proofs.folds.fold_two.Goals as goal

-- Assumes nothing.
pub returns : goal.returns
returns c =
    let a = c.args in
    two-law a.w a.b a.c (omega arith) (omega arith) (omega arith)
