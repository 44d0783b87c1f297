use mathlib.Core.Path.{refl}
use native.Mathlib.Omega.{arith}
use Rattle.crc_words.proofs.Folding.{five-law}
use Rattle.crc_words.proofs.folds.fold_five.Goals as goal

-- Assumes nothing.
pub returns : goal.returns
returns c =
    let a = c.args in
    (refl, five-law a.w a.b a.c a.d a.e (omega arith) (omega arith) (omega arith) (omega arith) (omega arith))
