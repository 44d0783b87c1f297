use mathlib.Core.Path.{refl}
use mathlib.Core.List.{[], ◌∷◌}
use native.Mathlib.Omega.{arith}
use borrow.Author.Rules.{rules}
use Rattle.wire.proofs.Lists.{bytes-known}
use Rattle.crc_words.proofs.Steps.{folded_more}
use Rattle.crc_words.proofs.fold_next.Goals as goal

-- Assumes nothing.
pub returns : goal.returns
returns c =
    let struct_known = c.struct_known-1 in
    let five = c.fold_five.ensures in
    let a = c.args in
    let s = a.s.now in
    let n = a.n in
    let small = struct_known.given in (
      five.0,
      folded_more s (bytes-known s c.type_inv.s) n.at c.word_at.ensures
          (n.b ∷ n.c ∷ n.d ∷ n.e ∷ []) (_ ∷ _ ∷ _ ∷ _ ∷ _ ∷ []) (omega arith)
          (omega (arith, small), (omega (arith, small), (omega (arith, small), (omega (arith, small), (omega (arith, small), tt)))))
          five.0 refl five.1,
    )
