use mathlib.Core.Path.{◌∙◌}
use native.Mathlib.Omega.{arith}
use borrow.Author.Rules.{rules}
use Rattle.crc_words.proofs.Folding.{half-law}
use Rattle.crc_words.proofs.folds.fold_half.Goals as goal

-- Assumes nothing.
pub returns : goal.returns
returns c =
    let a = c.args in
    c.left_of.ensures ∙ half-law a.hi a.lo (omega arith) (omega arith)
