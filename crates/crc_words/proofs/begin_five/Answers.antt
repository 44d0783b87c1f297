use mathlib.Core.Path.{refl, ◌∙◌}
use mathlib.Core.List.{[], ◌∷◌}
use native.Mathlib.Omega.{arith}
use borrow.Author.Rules.{rules}
use Rattle.crc_words.proofs.Steps.{five-first}
use Rattle.crc_words.proofs.begin_five.Goals as goal

-- Assumes nothing.
pub returns-then-s-m-eq8 : goal.returns-then-s-m-eq8
returns-then-s-m-eq8 c =
    let five = c.fold_five-n.ensures in
    let a = c.args in
    let s = a.s.now in
    let m = a.m in
    record {
      at_in_bounds = search rules;
      result_value = five-first s m.at m.word m.next (_ ∷ _ ∷ _ ∷ _ ∷ _ ∷ []) (omega arith) five.0 refl five.1;
    }

pub returns : goal.returns
returns c =
    let five = c.fold_five-n.ensures in
    let a = c.args in
    let s = a.s.now in
    let m = a.m in
    record {
      at_in_bounds = search rules;
      result_value = c.fold_next.ensures.1
          ∙ five-first s m.at m.word m.next (_ ∷ _ ∷ _ ∷ _ ∷ _ ∷ []) (omega arith) five.0 refl five.1;
    }
