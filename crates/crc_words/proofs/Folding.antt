-- Where the code adds a word further on, and why that leaves the same: modulo the CRC's polynomial the powers of x by which the
-- word is moved up add to the power of x by which it stood higher.
-- Assumes nothing.
use mathlib.Core.Path.{◌≡◌, refl, sym, ap, ap₂, ◌∙◌}
use Prim.Native.Nat.{ℕ, ◌+◌, ◌^◌, ◌≤◌, ◌<◌, max}
use mathlib.Core.List.{List, [], ◌∷◌}
use native.Mathlib.Nat.{le_trans, le-max_left, le-max_right}
use native.Mathlib.Omega.{arith}
use lib.Dec.{lit<, lit≤}
use lib.Bits.{bit_xor, xor_lt, xor_comm, xor_zero_r}
use Rattle.crc.specs.Crc.{clock}
use Rattle.crc.specs.Shifts.{shift, shifts}
use Rattle.crc.proofs.Xor.{xor_assoc, xor-4}
use Rattle.crc.proofs.Shift.{shifts_none, shifts-lt, shifts-of-zero, shifts-shifts, shifts-xor}
use Rattle.crc_register.specs.Remainder.{remainder}
use Rattle.crc_words.specs.Words.{after}
use Rattle.crc_register.proofs.Remainder.{remainder-lt, remainder-small, remainder-xor, above, below, above-lt, above_low, above-none, below-lt, moved}
use Rattle.crc_words.proofs.Powers.{powers, raised, powers-append, same-powers}
use Rattle.crc_words.proofs.Words.{Words, span, next-lt, after-lt, after-xor, first-xor}

-- ---- a word w, moved up by k digits, added to two words in a row, for each k of a list

abbrev aboves : ℕ → List ℕ → ℕ → ℕ
aboves w [] a = a
aboves w (k ∷ ks) a = aboves w ks (bit_xor a (above k w))

abbrev belows : ℕ → List ℕ → ℕ → ℕ
belows w [] b = b
belows w (k ∷ ks) b = belows w ks (bit_xor b (below k w))

abbrev highest : List ℕ → ℕ
highest [] = 0
highest (k ∷ ks) = max k (highest ks)

module _ {w : ℕ} (hw : w < 2 ^ 64) where
  once : (k : ℕ) (ws : List ℕ) {h a b : ℕ} → k ≤ 64 → h < 2 ^ 32 → a < 2 ^ 64 → b < 2 ^ 64 → Words ws
      → after h (bit_xor a (above k w) ∷ bit_xor b (below k w) ∷ ws) ≡ bit_xor (after h (a ∷ b ∷ ws)) (shifts (span ws) (shifts k (remainder w)))
  once k ws {h} {a} {b} hk hh ha hb all =
      let p = bit_xor (shifts 64 h) (remainder a) in
      let x = remainder (above k w) in
      let y = remainder (below k w) in
      let hx = remainder-lt (above-lt k hk hw) in
      ap (λ (z : ℕ). after z ws)
      (ap₂ (λ (u v : ℕ). bit_xor (shifts 64 (bit_xor (shifts 64 h) u)) v) (remainder-xor ha (above-lt k hk hw)) (remainder-xor hb (below-lt k hk hw))
      ∙ ap (λ (z : ℕ). bit_xor (shifts 64 z) (bit_xor (remainder b) y)) (sym (xor_assoc (shifts 64 h) (remainder a) x))
      ∙ ap (λ (z : ℕ). bit_xor z (bit_xor (remainder b) y)) (shifts-xor 64 p x (next-lt hh ha) hx)
      ∙ xor-4 (shifts 64 p) (shifts 64 x) (remainder b) y
      ∙ ap (bit_xor (bit_xor (shifts 64 p) (remainder b))) (sym (moved k hk hw)))
      ∙ after-xor ws (next-lt (next-lt hh ha) hb) (shifts-lt k _ (remainder-lt hw)) all

  each : (ks ws : List ℕ) {h a b : ℕ} → highest ks ≤ 64 → h < 2 ^ 32 → a < 2 ^ 64 → b < 2 ^ 64 → Words ws
      → after h (aboves w ks a ∷ belows w ks b ∷ ws) ≡ bit_xor (after h (a ∷ b ∷ ws)) (powers (raised (span ws) ks) (remainder w))
  each [] ws {h} {a} {b} hk hh ha hb all = sym (xor_zero_r (after h (a ∷ b ∷ ws)))
  each (k ∷ ks) ws {h} {a} {b} l hh ha hb all =
      let hk = le_trans (le-max_left k (highest ks)) l in
      let hks = le_trans (le-max_right k (highest ks)) l in
      let t = after h (a ∷ b ∷ ws) in
      let v = remainder w in
      each ks ws hks hh (xor_lt 64 a (above k w) ha (above-lt k hk hw)) (xor_lt 64 b (below k w) hb (below-lt k hk hw)) all
      ∙ ap (λ (x : ℕ). bit_xor x (powers (raised (span ws) ks) v)) (once k ws hk hh ha hb all ∙ ap (bit_xor t) (shifts-shifts (span ws) k v))
      ∙ xor_assoc t (shifts (span ws + k) v) (powers (raised (span ws) ks) v)

-- where all are few
aboves-lt : (ks : List ℕ) {w a : ℕ} → w < 2 ^ 64 → highest ks ≤ 32 → a < 2 ^ 32 → aboves w ks a < 2 ^ 32
aboves-lt [] hw l h = h
aboves-lt (k ∷ ks) {w} {a} hw l h =
    aboves-lt ks hw (le_trans (le-max_right k (highest ks)) l)
    (xor_lt 32 a (above k w) h (above_low k (le_trans (le-max_left k (highest ks)) l) hw))

-- where w is a register
aboves-none : (ks : List ℕ) {w : ℕ} → w < 2 ^ 32 → highest ks ≤ 32 → aboves w ks 0 ≡ 0
aboves-none [] hw l = refl
aboves-none (k ∷ ks) {w} hw l =
    ap (λ (x : ℕ). aboves w ks (bit_xor 0 x)) (above-none k (le_trans (le-max_left k (highest ks)) l) hw)
    ∙ aboves-none ks hw (le_trans (le-max_right k (highest ks)) l)

-- ---- to the next two words: x^128, beside x^64

abbrev twos : List ℕ
twos = 48 ∷ 41 ∷ 23 ∷ 17 ∷ 16 ∷ 9 ∷ 8 ∷ []

x128 : (r : ℕ) → r < 2 ^ 32 → powers (64 ∷ twos) r ≡ shifts 128 r
unfolding clock shift shifts
x128 = same-powers (64 ∷ twos) 128 refl

module _ (w b c : ℕ) (hw : w < 2 ^ 64) (hb : b < 2 ^ 64) (hc : c < 2 ^ 64) where
  pub two-law : after 0 (aboves w twos (bit_xor b w) ∷ belows w twos c ∷ []) ≡ after (remainder w) (b ∷ c ∷ [])
  two-law =
      let v = remainder w in
      let t = after 0 (b ∷ c ∷ []) in
      each hw twos [] (lit≤ tt) (lit< tt) (xor_lt 64 b w hb hw) hc tt
      ∙ ap (λ (x : ℕ). bit_xor x (powers twos v)) (first-xor (c ∷ []) (lit< tt) hb hw (hc, tt))
      ∙ xor_assoc t (shifts 64 v) (powers twos v)
      ∙ ap (bit_xor t) (x128 v (remainder-lt hw))
      ∙ sym (after-xor (b ∷ c ∷ []) (lit< tt) (remainder-lt hw) (hb, (hc, tt)))

-- ---- to the second, third, fourth and fifth word behind it: x^320

-- over the second and third, the third and fourth, the fourth and fifth
abbrev seconds : List ℕ
seconds = 47 ∷ 9 ∷ []

abbrev thirds : List ℕ
thirds = 45 ∷ []

abbrev fourths : List ℕ
fourths = 20 ∷ []

x320 : (r : ℕ) → r < 2 ^ 32 → powers (175 ∷ 137 ∷ 109 ∷ 20 ∷ []) r ≡ shifts 320 r
unfolding clock shift shifts
x320 = same-powers (175 ∷ 137 ∷ 109 ∷ 20 ∷ []) 320 refl

module _ (w b c d e : ℕ) (hw : w < 2 ^ 64) (hb : b < 2 ^ 64) (hc : c < 2 ^ 64) (hd : d < 2 ^ 64) (he : e < 2 ^ 64) where
  pub five-law : after 0 (b ∷ aboves w seconds c ∷ aboves w thirds (belows w seconds d) ∷ aboves w fourths (belows w thirds e) ∷ below 20 w ∷ [])
      ≡ after (remainder w) (b ∷ c ∷ d ∷ e ∷ 0 ∷ [])
  five-law =
      let v = remainder w in
      let hv = remainder-lt hw in
      let c' = aboves w seconds c in
      let d' = belows w seconds d in
      let d'' = aboves w thirds d' in
      let e' = belows w thirds e in
      let t = after 0 (b ∷ c ∷ d ∷ e ∷ 0 ∷ []) in
      let x = powers (raised 128 seconds) v in
      let y = powers (raised 64 thirds) v in
      let z = powers fourths v in
      let hc' : c' < 2 ^ 64 = xor_lt 64 _ _ (xor_lt 64 _ _ hc (above-lt 47 (lit≤ tt) hw)) (above-lt 9 (lit≤ tt) hw) in
      let hd' : d' < 2 ^ 64 = xor_lt 64 _ _ (xor_lt 64 _ _ hd (below-lt 47 (lit≤ tt) hw)) (below-lt 9 (lit≤ tt) hw) in
      let hd'' : d'' < 2 ^ 64 = xor_lt 64 _ _ hd' (above-lt 45 (lit≤ tt) hw) in
      let he' : e' < 2 ^ 64 = xor_lt 64 _ _ he (below-lt 45 (lit≤ tt) hw) in
      each hw fourths [] {h = after 0 (b ∷ c' ∷ d'' ∷ [])} {a = e'} {b = 0}
      (lit≤ tt) (after-lt (b ∷ c' ∷ d'' ∷ []) (lit< tt) (hb, (hc', (hd'', tt)))) he' (lit< tt) tt
      ∙ ap (λ (q : ℕ). bit_xor q z)
      (each hw thirds (0 ∷ []) {h = after 0 (b ∷ c' ∷ [])} {a = d'} {b = e}
      (lit≤ tt) (after-lt (b ∷ c' ∷ []) (lit< tt) (hb, (hc', tt))) hd' he (lit< tt, tt)
      ∙ ap (λ (q : ℕ). bit_xor q y)
      (each hw seconds (e ∷ 0 ∷ []) {h = after 0 (b ∷ [])} {a = c} {b = d}
      (lit≤ tt) (after-lt (b ∷ []) (lit< tt) (hb, tt)) hc hd (he, (lit< tt, tt))))
      ∙ xor_assoc (bit_xor t x) y z
      ∙ xor_assoc t x (bit_xor y z)
      ∙ ap (bit_xor t)
      (ap (bit_xor x) (powers-append (109 ∷ []) fourths v) ∙ powers-append (175 ∷ 137 ∷ []) (109 ∷ 20 ∷ []) v ∙ x320 v hv)
      ∙ sym (after-xor (b ∷ c ∷ d ∷ e ∷ 0 ∷ []) (lit< tt) hv (hb, (hc, (hd, (he, (lit< tt, tt))))))

-- ---- the last word but one over the last and 32 clocks behind it: x^96

abbrev lasts : List ℕ
lasts = 1 ∷ 2 ∷ 5 ∷ 6 ∷ 9 ∷ 11 ∷ 13 ∷ 15 ∷ 25 ∷ 28 ∷ 29 ∷ 30 ∷ 31 ∷ []

x96 : (r : ℕ) → r < 2 ^ 32 → powers lasts r ≡ shifts 96 r
unfolding clock shift shifts
x96 = same-powers lasts 96 refl

module _ (v w : ℕ) (hv : v < 2 ^ 64) (hw : w < 2 ^ 64) where
  pub last-lt : aboves v lasts (above 32 w) < 2 ^ 32
  last-lt = aboves-lt lasts hv (lit≤ tt) (above_low 32 (lit≤ tt) hw)

  pub last-law : after 0 (aboves v lasts (above 32 w) ∷ belows v lasts (below 32 w) ∷ []) ≡ shifts 32 (after (remainder v) (w ∷ []))
  last-law =
      let x = remainder v in
      let y = remainder w in
      each hv lasts [] (lit≤ tt) (lit< tt) (above-lt 32 (lit≤ tt) hw) (below-lt 32 (lit≤ tt) hw) tt
      ∙ ap₂ bit_xor
      (ap (λ (q : ℕ). bit_xor (shifts 64 (bit_xor q (remainder (above 32 w)))) (remainder (below 32 w))) (shifts-of-zero 64) ∙ sym (moved 32 (lit≤ tt) hw))
      (x96 x (remainder-lt hv))
      ∙ xor_comm (shifts 32 y) (shifts 96 x)
      ∙ ap (λ (q : ℕ). bit_xor q (shifts 32 y)) (sym (shifts-shifts 32 64 x))
      ∙ sym (shifts-xor 32 (shifts 64 x) y (shifts-lt 64 x (remainder-lt hv)) (remainder-lt hw))

-- ---- 32 digits to the word behind them: x^64, beside 1

abbrev halves : List ℕ
halves = 2 ∷ 3 ∷ 7 ∷ 8 ∷ 9 ∷ 10 ∷ 13 ∷ 14 ∷ 16 ∷ 18 ∷ 19 ∷ 24 ∷ 27 ∷ 30 ∷ []

x64 : (r : ℕ) → r < 2 ^ 32 → powers (0 ∷ halves) r ≡ shifts 64 r
unfolding clock shift shifts
x64 = same-powers (0 ∷ halves) 64 refl

-- a word behind the word 0
alone : (w : ℕ) → after 0 (0 ∷ w ∷ []) ≡ remainder w
alone w =
    let none : bit_xor (shifts 64 0) (remainder 0) ≡ 0 = ap₂ bit_xor (shifts-of-zero 64) (remainder-small (lit< tt)) in
    ap (λ (x : ℕ). bit_xor x (remainder w)) (ap (shifts 64) none ∙ shifts-of-zero 64)

module _ (hi lo : ℕ) (hh : hi < 2 ^ 32) (hl : lo < 2 ^ 64) where
  pub half-law : remainder (belows hi halves (bit_xor lo hi)) ≡ after 0 (hi ∷ lo ∷ [])
  half-law =
      let word : hi < 2 ^ 64 = omega arith in
      let v = remainder hi in
      let w = remainder lo in
      let all = belows hi halves (bit_xor lo hi) in
      sym (alone all)
      ∙ ap (λ (x : ℕ). after 0 (x ∷ all ∷ [])) (sym (aboves-none halves hh (lit≤ tt)))
      ∙ each word halves [] (lit≤ tt) (lit< tt) (lit< tt) (xor_lt 64 lo hi hl word) tt
      ∙ ap (λ (x : ℕ). bit_xor x (powers halves v)) (alone (bit_xor lo hi) ∙ remainder-xor hl word)
      ∙ xor_assoc w v (powers halves v)
      ∙ ap (bit_xor w) (ap (λ (x : ℕ). bit_xor x (powers halves v)) (sym (shifts_none v)) ∙ x64 v (remainder-lt word))
      ∙ xor_comm w (shifts 64 v)
      ∙ ap (λ (x : ℕ). bit_xor (shifts 64 (bit_xor x v)) w) (sym (shifts-of-zero 64))
