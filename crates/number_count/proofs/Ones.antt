-- How many members a set has, the code's way: the ones in its words.
-- Assumes nothing.
use Prim.Native.Nat.{ℕ, ◌+◌, ◌^◌, ◌<◌}
use mathlib.Core.List.{List, [], ◌∷◌}
use mathlib.Core.Path.{◌≡◌, refl, sym}
use native.Mathlib.Omega.{arith}
use lib.Count.{ones}
use lib.ListN.{length, get_or}
use Rattle.number_set.specs.declared.NumberSet.{NumberSet}
use Rattle.number_set.specs.Members.{width, many, bits, flags, members, trues, Words, Fits}
use Rattle.number_set.proofs.Bits.{trues-bits}
use Rattle.number_set.proofs.Counts.{trues-append}

word_flags : (w : ℕ) (ws : List ℕ) (n : ℕ) → w < 2 ^ width → trues (flags ws) ≡ n → trues (flags (w ∷ ws)) ≡ ones w + n
unfolding flags
word_flags w ws n h e =
    let a = trues-append (bits width w) (flags ws) in
    let b = trues-bits width w h in
    omega arith

no_words : trues (flags []) ≡ 0
unfolding flags trues
no_words = refl

pub ones-words : (ws : List ℕ) → length ws ≡ many → Words ws
    → ones (get_or ws 0 0) + ones (get_or ws 1 0) + ones (get_or ws 2 0) + ones (get_or ws 3 0) ≡ trues (flags ws)
ones-words [] e f = absurd (omega arith)
ones-words (a ∷ []) e f = absurd (omega arith)
ones-words (a ∷ b ∷ []) e f = absurd (omega arith)
ones-words (a ∷ b ∷ c ∷ []) e f = absurd (omega arith)
ones-words (a ∷ b ∷ c ∷ d ∷ []) e f =
    let t = word_flags d [] 0 f.1.1.1.0 no_words in
    let u = word_flags c (d ∷ []) _ f.1.1.0 t in
    let v = word_flags b (c ∷ d ∷ []) _ f.1.0 u in
    let w = word_flags a (b ∷ c ∷ d ∷ []) _ f.0 v in
    omega arith
ones-words (a ∷ b ∷ c ∷ d ∷ x ∷ ws) e f = absurd (omega arith)

-- **the count is the number of ones in the four words**
pub count_ones : (s : NumberSet) → Fits s
    → trues (members s) ≡ ones (get_or s.words 0 0) + ones (get_or s.words 1 0) + ones (get_or s.words 2 0) + ones (get_or s.words 3 0)
unfolding members
count_ones s f = sym (ones-words s.words f.four f.each)
