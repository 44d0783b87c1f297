use mathlib.Core.Path.{◌∙◌}
use native.Mathlib.Omega.{arith}
use borrow.Author.Rules.{rules}
use Rattle.wire.proofs.Lists.{bytes-known}
use Rattle.crc_words.proofs.Steps.{five-last}
use Rattle.crc_words.proofs.last_five.Goals as goal

-- Assumes nothing.
pub returns : goal.returns
returns c =
    let s = c.args.s.now in
    let p = c.fold_two-p.type_inv in
    let q = c.fold_two-q.type_inv in
    let r = c.fold_two-t.type_inv in
    let n = c.struct_known-1.given in
    c.fold_last.ensures
    ∙ five-last s (bytes-known s c.type_inv.s) c.args.n.at c.requires
    c.word_at.ensures c.word_at-2.ensures c.word_at-3.ensures c.word_at-4.ensures c.word_at-5.ensures
    (omega (arith, n), (omega (arith, n), (omega (arith, n), (omega (arith, n), (omega (arith, n), tt)))))
    _ _ _ _ _ _
    (omega (arith, p), (omega (arith, p), tt)) (omega (arith, q), (omega (arith, q), tt)) (omega (arith, r), (omega (arith, r), tt))
    (omega (arith, c.word_at-4.type_inv), (omega (arith, c.word_at-5.type_inv), tt))
    c.fold_two-p.ensures c.fold_two-q.ensures c.fold_two-t.ensures
