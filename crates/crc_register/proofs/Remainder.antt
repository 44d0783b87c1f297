-- What a word leaves: linear, and moved up by k digits it is two words, the digits that leave it at the top and those that stay.
-- Assumes nothing.
use mathlib.Core.Path.{◌≡◌, refl, sym, ap, ap₂, ◌∙◌}
use Prim.Native.Nat.{ℕ, zero, suc, ◌+◌, ◌-◌, ◌*◌, ◌/◌, ◌%◌, ◌^◌, ◌≤◌, ◌<◌}
use native.Mathlib.Nat.{add_comm, zero-add, suc-add, mul-mod_left, mod-eq_of_lt, div-eq_of_lt, div-one, lt_of_lt_of_le}
use native.Mathlib.Numerals.{add-one}
use native.Mathlib.Omega.{arith}
use lib.Pow.{pow_mono, shr-shr, shl-shr, shr_le, shr_lt, field, mod-mod-pow}
use lib.Bits.{bit_xor, xor_lt, xor_shr, xor_mod, xor_zero_r, xor_shifted}
use Rattle.crc.specs.Shifts.{shift, shifts}
use Rattle.crc.proofs.Xor.{xor_assoc, xor-4}
use Rattle.crc.proofs.Shift.{shift-low, shift-lt, shift-xor, shifts_none, shifts-next, shifts-lt, shifts-xor, shifts-of-zero}
use Rattle.crc_register.specs.Remainder.{remainder}

-- ---- what a number of n digits leaves, digit by digit

unfoldable pub value : ℕ → ℕ → ℕ
value zero w = 0
value (suc n) w = bit_xor (shift (value n (w / 2))) (w % 2)

pub value-lt : (n w : ℕ) → value n w < 2 ^ 32
unfolding value
value-lt zero w = omega arith
value-lt (suc n) w = xor_lt 32 _ (w % 2) (shift-lt _ (value-lt n (w / 2))) (omega arith)

value-zero : (n : ℕ) → value n 0 ≡ 0
unfolding value
value-zero zero = refl
value-zero (suc n) =
    ap (λ (v : ℕ). bit_xor (shift v) 0) (value-zero n) ∙ ap (λ (v : ℕ). bit_xor v 0) (shift-low 0 (omega arith))

-- a number that fits the register
pub value-small : (n w : ℕ) → n ≤ 32 → w < 2 ^ n → value n w ≡ w
unfolding value
value-small zero w h l = omega arith
value-small (suc n) w h l =
    let half : w / 2 < 2 ^ n = shr_lt n 1 (rw (add-one n) l) in
    let top : 2 ^ n ≤ 2 ^ 31 = pow_mono {i = n} {j = 31} (omega arith) in
    let v = w / 2 in
    let d : v * 2 % 2 ^ 32 ≡ v * 2 ^ 1 = omega arith in
    ap (λ (x : ℕ). bit_xor (shift x) (w % 2)) (value-small n v (omega arith) half)
    ∙ ap (λ (x : ℕ). bit_xor x (w % 2)) (shift-low v (omega arith) ∙ d)
    ∙ xor_shifted v 1 (w % 2) (omega arith)
    ∙ omega arith

-- what holds of 0, and of a register that was moved up and a digit added where it held before, holds of each register
pub register-ind : (P : ℕ → Type 0) → P 0 → ((v b : ℕ) → v < 2 ^ 32 → b < 2 → P v → P (bit_xor (shift v) b)) → (r : ℕ) → r < 2 ^ 32 → P r
unfolding value
register-ind P z s r h = rw (value-small 32 r (omega arith) h) at (all 32 r)
  where
    all : (n w : ℕ) → P (value n w)
    all zero w = z
    all (suc n) w = s (value n (w / 2)) (w % 2) (value-lt n (w / 2)) (omega arith) (all n (w / 2))

-- the lowest k digits apart
pub value-parts : (k n w : ℕ) → value (k + n) w ≡ bit_xor (shifts k (value n (w / 2 ^ k))) (value k (w % 2 ^ k))
unfolding value
value-parts zero n w =
    ap₂ value (zero-add n) (sym (div-one w))
    ∙ sym (xor_zero_r (value n (w / 1)) ∙ refl)
    ∙ ap (λ (x : ℕ). bit_xor x 0) (sym (shifts_none (value n (w / 1))))
value-parts (suc k) n w =
    let v = value n (w / 2 / 2 ^ k) in
    let u = value k (w / 2 % 2 ^ k) in
    let high : w / 2 / 2 ^ k ≡ w / 2 ^ suc k = shr-shr w 1 k ∙ ap (λ (j : ℕ). w / 2 ^ j) (add_comm 1 k ∙ add-one k) in
    let low : w / 2 % 2 ^ k ≡ w % 2 ^ suc k / 2 = sym (field w k 1) ∙ ap (λ (j : ℕ). w % 2 ^ j / 2) (add-one k) in
    let last : w % 2 ≡ w % 2 ^ suc k % 2 = sym (mod-mod-pow w k 1) ∙ ap (λ (j : ℕ). w % 2 ^ j % 2) (add-one k) in
    ap (λ (m : ℕ). value m w) (suc-add k n)
    ∙ ap (λ (x : ℕ). bit_xor (shift x) (w % 2)) (value-parts k n (w / 2))
    ∙ ap (λ (x : ℕ). bit_xor x (w % 2)) (shift-xor (shifts k v) u (shifts-lt k v (value-lt n _)) (value-lt k _))
    ∙ xor_assoc (shift (shifts k v)) (shift u) (w % 2)
    ∙ ap₂ bit_xor (sym (shifts-next k v) ∙ ap (λ (x : ℕ). shifts (suc k) (value n x)) high)
    (ap₂ (λ (x y : ℕ). bit_xor (shift (value k x)) y) low last)

-- a number of at most n digits has no more of them at n + j
value-short : (n j : ℕ) {w : ℕ} → w < 2 ^ n → value (n + j) w ≡ value n w
value-short n j {w} h =
    value-parts n j w
    ∙ ap₂ (λ (x y : ℕ). bit_xor (shifts n (value j x)) (value n y)) (div-eq_of_lt h) (mod-eq_of_lt h)
    ∙ ap (λ (x : ℕ). bit_xor (shifts n x) (value n w)) (value-zero j)
    ∙ ap (λ (x : ℕ). bit_xor x (value n w)) (shifts-of-zero n)

-- ---- what a word leaves

value-word : (w : ℕ) → w < 2 ^ 64 → remainder w ≡ value 64 w
unfolding remainder
value-word w h =
    sym (value-parts 32 32 w
    ∙ ap₂ (λ (x y : ℕ). bit_xor (shifts 32 x) y)
    (value-small 32 (w / 2 ^ 32) (omega arith) (omega arith)) (value-small 32 (w % 2 ^ 32) (omega arith) (omega arith)))

-- of at most n digits
pub value-remainder : (n : ℕ) {w : ℕ} → n ≤ 64 → w < 2 ^ n → value n w ≡ remainder w
value-remainder n {w} hn h =
    let e : n + (64 - n) ≡ 64 = omega arith in
    let word : w < 2 ^ 64 = lt_of_lt_of_le h (pow_mono {i = n} {j = 64} hn) in
    sym (value-word w word ∙ ap (λ (m : ℕ). value m w) (sym e) ∙ value-short n (64 - n) h)

-- a register as a word
pub remainder-small : {w : ℕ} → w < 2 ^ 32 → remainder w ≡ w
remainder-small {w} h = sym (value-remainder 32 (omega arith) h) ∙ value-small 32 w (omega arith) h

pub remainder-lt : {w : ℕ} → w < 2 ^ 64 → remainder w < 2 ^ 32
remainder-lt {w} h = rw (value-word w h) (value-lt 64 w)

pub remainder-xor : {v w : ℕ} → v < 2 ^ 64 → w < 2 ^ 64 → remainder (bit_xor v w) ≡ bit_xor (remainder v) (remainder w)
unfolding remainder
remainder-xor {v} {w} hv hw =
    ap₂ (λ (x y : ℕ). bit_xor (shifts 32 x) y) (xor_shr v w 32) (xor_mod v w 32)
    ∙ ap (λ (x : ℕ). bit_xor x (bit_xor (v % 2 ^ 32) (w % 2 ^ 32))) (shifts-xor 32 (v / 2 ^ 32) (w / 2 ^ 32) (omega arith) (omega arith))
    ∙ xor-4 (shifts 32 (v / 2 ^ 32)) (shifts 32 (w / 2 ^ 32)) (v % 2 ^ 32) (w % 2 ^ 32)

-- ---- the digits that leave a word at the top when it moves up by k, and those that stay

abbrev pub above : ℕ → ℕ → ℕ
above k w = w / 2 ^ (64 - k)

abbrev pub below : ℕ → ℕ → ℕ
below k w = w * 2 ^ k % 2 ^ 64

-- few of them
pub above_low : (k : ℕ) {w : ℕ} → k ≤ 32 → w < 2 ^ 64 → above k w < 2 ^ 32
above_low k {w} l h =
    let more : 2 ^ 64 ≤ 2 ^ (32 + (64 - k)) = pow_mono {i = 64} {j = 32 + (64 - k)} (omega arith) in
    shr_lt 32 (64 - k) (lt_of_lt_of_le h more)

-- none of a register's
pub above-none : (k : ℕ) {w : ℕ} → k ≤ 32 → w < 2 ^ 32 → above k w ≡ 0
above-none k {w} l h =
    let more : 2 ^ 32 ≤ 2 ^ (64 - k) = pow_mono {i = 32} {j = 64 - k} (omega arith) in
    div-eq_of_lt (lt_of_lt_of_le h more)

module _ (k : ℕ) {w : ℕ} (hk : k ≤ 64) (h : w < 2 ^ 64) where
  pub above-lt : above k w < 2 ^ 64
  above-lt = omega (arith, shr_le w (64 - k))

  pub below-lt : below k w < 2 ^ 64
  below-lt = omega arith

  pub moved : shifts k (remainder w) ≡ bit_xor (shifts 64 (remainder (above k w))) (remainder (below k w))
  moved =
      let j = 64 - k in
      let e : 64 ≡ k + j = omega arith in
      let short : w / 2 ^ j < 2 ^ k = shr_lt k j (rw (← e) h) in
      let top : w * 2 ^ k / 2 ^ 64 ≡ w / 2 ^ j =
      ap (λ (n : ℕ). w * 2 ^ k / 2 ^ n) e ∙ sym (shr-shr (w * 2 ^ k) k j) ∙ ap (λ (x : ℕ). x / 2 ^ j) (shl-shr w k) in
      sym (value-parts k 64 (w * 2 ^ k)
      ∙ ap₂ (λ (x y : ℕ). bit_xor (shifts k (value 64 x)) (value k y)) (shl-shr w k) (mul-mod_left w (2 ^ k))
      ∙ ap (bit_xor (shifts k (value 64 w))) (value-zero k) ∙ xor_zero_r (shifts k (value 64 w))
      ∙ ap (shifts k) (sym (value-word w h)))
      ∙ ap (λ (n : ℕ). value n (w * 2 ^ k)) (add_comm k 64)
      ∙ value-parts 64 k (w * 2 ^ k)
      ∙ ap₂ bit_xor (ap (shifts 64) (ap (value k) top ∙ value-remainder k hk short)) (sym (value-word (below k w) below-lt))
