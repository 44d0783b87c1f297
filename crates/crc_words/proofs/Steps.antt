-- What the code's stages on words do, over plain numbers: each answers what calls of the code left.
-- Assumes nothing.
use mathlib.Core.Path.{◌≡◌, refl, sym, ap, ap₂, ◌∙◌}
use Prim.Native.Nat.{ℕ, ◌+◌, ◌-◌, ◌*◌, ◌/◌, ◌%◌, ◌^◌, ◌≤◌, ◌<◌}
use mathlib.Core.List.{List, [], ◌∷◌, ◌++◌}
use native.Mathlib.Nat.{add-mul, mul_assoc, mod-add-div, add-mul-mod_self_left}
use native.Mathlib.Omega.{arith}
use lib.Dec.{lit<}
use lib.Pow.{pow-add}
use lib.Bits.{bit_xor, xor_lt}
use lib.ListN.{length, length-append}
use Rattle.wire.specs.Lists.{Bytes}
use Rattle.crc.specs.Crc.{start, crc_of}
use Rattle.crc.specs.Shifts.{shifts}
use Rattle.crc.proofs.Shift.{shifts-of-zero}
use Rattle.crc_register.specs.Remainder.{remainder}
use Rattle.crc_words.specs.Words.{after, be64, due}
use Rattle.crc_register.proofs.Remainder.{remainder-lt}
use Rattle.crc_words.proofs.Words.{Words, words_more, next-lt}
use Rattle.crc_words.proofs.Message.{due-same, one_more, none_left, taken_in, begun}

-- ---- the first bytes

shl-shl : (x j k : ℕ) → x * 2 ^ j % 2 ^ 64 * 2 ^ k % 2 ^ 64 ≡ x * 2 ^ (j + k) % 2 ^ 64
shl-shl x j k =
    let n = 2 ^ 64 in
    let q = x * 2 ^ j in
    let p = 2 ^ k in
    sym (ap (λ (y : ℕ). y % n)
    (ap (λ (y : ℕ). x * y) (pow-add 2 j k) ∙ sym (mul_assoc x (2 ^ j) p)
    ∙ ap (λ (y : ℕ). y * p) (sym (mod-add-div q n))
    ∙ add-mul (q % n) (n * (q / n)) p
    ∙ ap (λ (y : ℕ). q % n * p + y) (mul_assoc n (q / n) p))
    ∙ add-mul-mod_self_left (q % n * p) n (q / n * p))

-- one more than k of them
pub first-bytes : (s : List ℕ) (bs : Bytes s) (k : ℕ) {w : ℕ} → k < 8 → k + 9 ≤ length s → w ≡ be64 s 0
    → due s (k + 1) (remainder (bit_xor w (start * 2 ^ 32) / 2 ^ (56 - 8 * k))) (start * 2 ^ 32 * 2 ^ 8 % 2 ^ 64 * 2 ^ (8 * k) % 2 ^ 64 ∷ []) ≡ crc_of s
first-bytes s bs k {w} hk l e =
    let f = start * 2 ^ 32 in
    let high : 56 - 8 * k ≡ 64 - 8 * (k + 1) = omega arith in
    let low : 8 + 8 * k ≡ 8 * (k + 1) = omega arith in
    ap₂ (λ (x : ℕ) (ws : List ℕ). due s (k + 1) (remainder x) ws)
    (ap₂ (λ (x j : ℕ). bit_xor x f / 2 ^ j) e high)
    (ap (λ (x : ℕ). x ∷ []) (shl-shl f 8 (8 * k) ∙ ap (λ (j : ℕ). f * 2 ^ j % 2 ^ 64) low))
    ∙ begun s bs (k + 1) (omega arith) (omega arith)

-- ---- words of a message s, from at on; u is the word that stands there

module _ (s : List ℕ) (bs : Bytes s) (at : ℕ) {u : ℕ} (e : u ≡ be64 s at) where
  read : {h a : ℕ} (ws : List ℕ) → at + 8 * length (a ∷ ws) ≤ length s → h < 2 ^ 32 → a < 2 ^ 64 → Words ws
      → due s at h (a ∷ ws) ≡ due s (at + 8) (bit_xor (shifts 64 h) (remainder (bit_xor u a))) ws
  read {h} {a} ws l hh ha all =
      taken_in s bs at ws l hh ha all ∙ ap (λ (x : ℕ). due s (at + 8) (bit_xor (shifts 64 h) (remainder (bit_xor x a))) ws) (sym e)

  -- with nothing left of what was before
  read_first : {a : ℕ} (ws : List ℕ) → at + 8 * length (a ∷ ws) ≤ length s → Words (a ∷ ws)
      → due s at 0 (a ∷ ws) ≡ due s (at + 8) (remainder (bit_xor u a)) ws
  read_first {a} ws l (ha, all) =
      read ws l (lit< tt) ha all ∙ ap (λ (x : ℕ). due s (at + 8) (bit_xor x (remainder (bit_xor u a))) ws) (shifts-of-zero 64)

  -- the code has folded it onto the words vs
  folded : {a : ℕ} (ws vs : List ℕ) → at + 8 * length (a ∷ ws) ≤ length s → Words (a ∷ ws)
      → length vs ≡ length ws → after 0 vs ≡ after (remainder (bit_xor u a)) ws → due s (at + 8) 0 vs ≡ due s at 0 (a ∷ ws)
  folded {a} ws vs l all k n = due-same s (at + 8) vs ws 0 (remainder (bit_xor u a)) k n ∙ sym (read_first ws l all)

  -- the same where one of them was not there before
  pub folded_more : {a j : ℕ} (ws vs : List ℕ) → at + 8 * length (a ∷ ws) + 8 ≤ length s → Words (a ∷ ws) → j ≡ at + 8
      → length vs ≡ length (ws ++ 0 ∷ []) → after 0 vs ≡ after (remainder (bit_xor u a)) (ws ++ 0 ∷ []) → due s j 0 vs ≡ due s at 0 (a ∷ ws)
  folded_more {a} ws vs l (ha, all) p k n =
      let fits : at + 8 * length (a ∷ ws ++ 0 ∷ []) ≤ length s = simp length-append (omega arith) in
      ap (λ (i : ℕ). due s i 0 vs) p
      ∙ folded (ws ++ 0 ∷ []) vs fits (ha, words_more ws all) k n
      ∙ one_more s at 0 (a ∷ ws) l

  -- the word before it, w, was folded onto two words, and it is read with what is then to be added to it
  pub folded_read : {a b : ℕ} (w c : ℕ) → at + 16 ≤ length s → Words (a ∷ b ∷ [])
      → after 0 (a ∷ b ∷ []) ≡ after (remainder w) (c ∷ 0 ∷ []) → due s (at + 8) (remainder (bit_xor u a)) (b ∷ []) ≡ due s at (remainder w) (c ∷ [])
  folded_read {a} {b} w c l all n =
      sym (read_first (b ∷ []) l all)
      ∙ due-same s at (a ∷ b ∷ []) (c ∷ 0 ∷ []) 0 (remainder w) refl n
      ∙ one_more s at (remainder w) (c ∷ []) (omega arith)

  -- it is the last one
  pub last-read : {w b : ℕ} → at + 8 ≡ length s → w < 2 ^ 64 → b < 2 ^ 64 → u < 2 ^ 64
      → due s at (remainder w) (b ∷ []) ≡ shifts 32 (after (remainder w) (bit_xor u b ∷ []))
  last-read {w} {b} l hw hb hu =
      let g = bit_xor (shifts 64 (remainder w)) (remainder (bit_xor u b)) in
      read [] (omega arith) (remainder-lt hw) hb tt
      ∙ ap (λ (j : ℕ). due s j g []) l
      ∙ none_left s g (next-lt (remainder-lt hw) (xor_lt 64 u b hu hb))

-- the first word, w, was folded onto five words
pub five-first : (s : List ℕ) (at w b : ℕ) {j : ℕ} (vs : List ℕ) → at + 40 ≤ length s → j ≡ at → length vs ≡ 5
    → after 0 vs ≡ after (remainder w) (b ∷ 0 ∷ 0 ∷ 0 ∷ 0 ∷ []) → due s j 0 vs ≡ due s at (remainder w) (b ∷ [])
five-first s at w b vs l p k n =
    let h = remainder w in
    ap (λ (i : ℕ). due s i 0 vs) p
    ∙ due-same s at vs (b ∷ 0 ∷ 0 ∷ 0 ∷ 0 ∷ []) 0 h k n
    ∙ one_more s at h (b ∷ 0 ∷ 0 ∷ 0 ∷ []) (omega arith)
    ∙ one_more s at h (b ∷ 0 ∷ 0 ∷ []) (omega arith)
    ∙ one_more s at h (b ∷ 0 ∷ []) (omega arith)
    ∙ one_more s at h (b ∷ []) (omega arith)

-- The last five words, t to x: three are folded onto the next two, and the last two go through.
module _ (s : List ℕ) (bs : Bytes s) (at : ℕ) {a b c d e t u v w x : ℕ} (l : at + 40 ≡ length s)
    (et : t ≡ be64 s at) (eu : u ≡ be64 s (at + 8)) (ev : v ≡ be64 s (at + 16)) (ew : w ≡ be64 s (at + 24)) (ex : x ≡ be64 s (at + 32))
    (five : Words (a ∷ b ∷ c ∷ d ∷ e ∷ [])) where
  pub five-last : (p p' q q' r r' : ℕ) → Words (p ∷ p' ∷ []) → Words (q ∷ q' ∷ []) → Words (r ∷ r' ∷ []) → Words (w ∷ x ∷ [])
      → after 0 (p ∷ p' ∷ []) ≡ after (remainder (bit_xor t a)) (b ∷ c ∷ [])
      → after 0 (q ∷ q' ∷ []) ≡ after (remainder (bit_xor u p)) (p' ∷ d ∷ [])
      → after 0 (r ∷ r' ∷ []) ≡ after (remainder (bit_xor v q)) (q' ∷ e ∷ [])
      → shifts 32 (after (remainder (bit_xor w r)) (bit_xor x r' ∷ [])) ≡ due s at 0 (a ∷ b ∷ c ∷ d ∷ e ∷ [])
  five-last p p' q q' r r' (hp, hp') (hq, hq') (hr, hr') (hw, hx) np nq nr =
      let d-e = five.1.1.1 in
      let to-16 : at + 16 ≡ at + 8 + 8 = omega arith in
      let to-24 : at + 24 ≡ at + 16 + 8 = omega arith in
      let to-32 : at + 32 ≡ at + 24 + 8 = omega arith in
      sym (last-read s bs (at + 32) ex (omega arith) (xor_lt 64 w r hw hr) hr'.0 hx.0)
      ∙ ap (λ (i : ℕ). due s i (remainder (bit_xor w r)) (r' ∷ [])) to-32
      ∙ sym (read_first s bs (at + 24) ew (r' ∷ []) (omega arith) (hr, hr'))
      ∙ ap (λ (i : ℕ). due s i 0 (r ∷ r' ∷ [])) to-24
      ∙ folded s bs (at + 16) ev (q' ∷ e ∷ []) (r ∷ r' ∷ []) (omega arith) (hq, (hq'.0, d-e.1)) refl nr
      ∙ ap (λ (i : ℕ). due s i 0 (q ∷ q' ∷ e ∷ [])) to-16
      ∙ folded s bs (at + 8) eu (p' ∷ d ∷ e ∷ []) (q ∷ q' ∷ e ∷ []) (omega arith) (hp, (hp'.0, d-e)) refl (ap (λ (h : ℕ). after h (e ∷ [])) nq)
      ∙ folded s bs at et (b ∷ c ∷ d ∷ e ∷ []) (p ∷ p' ∷ d ∷ e ∷ []) (omega arith) five refl (ap (λ (h : ℕ). after h (d ∷ e ∷ [])) np)
