use mathlib.Core.Path.{◌∙◌}
use native.Mathlib.Omega.{arith}
use Rattle.crc_words.proofs.Folding.{last-lt, last-law}
use Rattle.crc_words.proofs.folds.fold_last.Goals as goal

-- Assumes nothing.
pub fold_half-requires : goal.fold_half-requires
fold_half-requires c = last-lt c.args.v c.args.w (omega arith) (omega arith)

pub returns : goal.returns
returns c =
    let a = c.args in
    c.fold_half.ensures ∙ last-law a.v a.w (omega arith) (omega arith)
