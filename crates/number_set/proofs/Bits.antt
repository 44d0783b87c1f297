-- A word and the list of its bits: there and back, one bit read, one bit turned, the ones counted.
-- Assumes nothing.
use Prim.Native.Nat.{ℕ, zero, suc, ◌+◌, ◌-◌, ◌*◌, ◌/◌, ◌%◌, ◌^◌, ◌≤◌, ◌<◌, min}
use mathlib.Core.Bool.{Bool, true, false}
use mathlib.Core.List.{List, [], ◌∷◌}
use mathlib.Core.Path.{◌≡◌, refl, sym, ap, ◌∙◌}
use native.Mathlib.Nat.{min-zero, min-le_left, add-zero, zero-mul, mul_assoc, mul-one, mul_comm, one-mul, pow-suc, div-div-eq-div-mul}
use native.Mathlib.Omega.{arith}
use lib.Bits.{bit_and, and_le_l, and_step, and_mask}
use lib.Count.{ones, ones_in, ones_step}
use lib.Dec.{eqb}
use lib.ListN.{length, get_or, set, take, length-set, length-take}
use lib.Seq.{take-nil}
use lib.Pow.{pow_mono, shl_exact}
use Rattle.wire.specs.Choice.{bit}
use Rattle.number_set.specs.Members.{width, bits, word, padded, trues}
use Rattle.number_set.specs.Stages.{turn}

-- ---- a bit as a number

below_two : (r : ℕ) → r < 2 → bit (eqb r 1) ≡ r
below_two zero h = refl
below_two (suc zero) h = refl
below_two (suc (suc r)) h = absurd (omega arith)

bit-odd : (w : ℕ) → bit (eqb (w % 2) 1) ≡ w % 2
bit-odd w = below_two (w % 2) (omega arith)

odd-bit : (b : Bool) (n : ℕ) → eqb ((bit b + 2 * n) % 2) 1 ≡ b
odd-bit true n = let e : (1 + 2 * n) % 2 ≡ 1 = omega arith in rw e
odd-bit false n = let e : (0 + 2 * n) % 2 ≡ 0 = omega arith in rw e

half-bit : (b : Bool) (n : ℕ) → (bit b + 2 * n) / 2 ≡ n
half-bit true n = omega arith
half-bit false n = omega arith

half_lt : (n w : ℕ) → w < 2 ^ suc n → w / 2 < 2 ^ n
half_lt n w h = let e : w < 2 ^ n * 2 = rw (pow-suc 2 n) at h in omega arith

-- ---- there and back

pub length-bits : (n w : ℕ) → length (bits n w) ≡ n
unfolding bits
length-bits zero w = refl
length-bits (suc n) w = ap suc (length-bits n (w / 2))

pub word-bits : (n w : ℕ) → w < 2 ^ n → word (bits n w) ≡ w
unfolding bits word
word-bits zero w h = omega arith
word-bits (suc n) w h =
    let e = word-bits n (w / 2) (half_lt n w h) in
    let o = bit-odd w in
    omega arith

-- a word has as many bits as its list has entries
word_lt : (l : List Bool) → word l < 2 ^ length l
unfolding word
word_lt [] = omega arith
word_lt (b ∷ l) = rw (pow-suc 2 (length l)) (under b (word l) (2 ^ length l) (word_lt l))
  where
    under : (c : Bool) (x p : ℕ) → x < p → bit c + 2 * x < p * 2
    under true x p h = omega arith
    under false x p h = omega arith

pub word-take-lt : (n : ℕ) (l : List Bool) → word (take n l) < 2 ^ n
word-take-lt n l =
    let e = length-take n l in
    let p : 2 ^ length (take n l) ≤ 2 ^ n = pow_mono {i = length (take n l)} {j = n} (omega (arith, min-le_left n (length l))) in
    omega (arith, word_lt (take n l))

-- the bits of a word of a list's first n entries
pub bits-padded : (n : ℕ) (l : List Bool) → bits n (word (take n l)) ≡ padded n l
unfolding bits word padded
bits-padded zero l = refl
bits-padded (suc n) [] = ap (λ (x : List Bool). false ∷ bits n (word x)) (sym (take-nil n)) ∙ ap (λ (x : List Bool). false ∷ x) (bits-padded n [])
bits-padded (suc n) (b ∷ l) = rw (odd-bit b (word (take n l)), half-bit b (word (take n l)), bits-padded n l)

-- ---- one bit

pub bits_at : (n w k : ℕ) → k < n → get_or (bits n w) k false ≡ eqb (w / 2 ^ k % 2) 1
unfolding bits
bits_at zero w k h = absurd (omega arith)
bits_at (suc n) w zero h = let e : w / 1 ≡ w = omega arith in rw e
bits_at (suc n) w (suc k) h =
    let e : w / 2 / 2 ^ k ≡ w / 2 ^ suc k = div-div-eq-div-mul w 2 (2 ^ k) ∙ ap (λ (x : ℕ). w / x) (mul_comm 2 (2 ^ k) ∙ sym (pow-suc 2 k)) in
    bits_at n (w / 2) k (omega arith) ∙ ap (λ (x : ℕ). eqb (x % 2) 1) e

-- what bit k adds to a word
abbrev own : ℕ → ℕ → ℕ
own w k = w / 2 ^ k % 2 * 2 ^ k

own-suc : (w k : ℕ) → own w (suc k) ≡ own (w / 2) k * 2
own-suc w k =
    ap (λ (x : ℕ). w / x % 2 * x) (pow-suc 2 k ∙ mul_comm (2 ^ k) 2)
    ∙ ap (λ (x : ℕ). x % 2 * (2 * 2 ^ k)) (sym (div-div-eq-div-mul w 2 (2 ^ k)))
    ∙ ap (λ (x : ℕ). w / 2 / 2 ^ k % 2 * x) (mul_comm 2 (2 ^ k))
    ∙ sym (mul_assoc (w / 2 / 2 ^ k % 2) (2 ^ k) 2)

-- with one bit as told, a word is more by what the bit adds now, and less by what it added before
turn-bits : (n w k : ℕ) (b : Bool) → k < n → w < 2 ^ n → word (set (bits n w) k b) + own w k ≡ w + bit b * 2 ^ k
unfolding bits word
turn-bits zero w k b h f = absurd (omega arith)
turn-bits (suc n) w zero b h f =
    let e = word-bits n (w / 2) (half_lt n w f) in
    let u : w / 1 % 2 * 1 ≡ w % 2 = ap (λ (x : ℕ). x * 1) (ap (λ (x : ℕ). x % 2) (the_same w)) ∙ mul-one (w % 2) in
    let v : bit b * 1 ≡ bit b = mul-one (bit b) in
    omega arith
  where
    the_same : (x : ℕ) → x / 1 ≡ x
    the_same x = omega arith
turn-bits (suc n) w (suc k) b h f =
    let e = turn-bits n (w / 2) k b (omega arith) (half_lt n w f) in
    let o = bit-odd w in
    let u = own-suc w k in
    let v : bit b * 2 ^ suc k ≡ bit b * 2 ^ k * 2 = ap (λ (x : ℕ). bit b * x) (pow-suc 2 k) ∙ sym (mul_assoc (bit b) (2 ^ k) 2) in
    omega arith

-- `&` with one bit takes what that bit adds
and-bit : (w k : ℕ) → bit_and w (2 ^ k) ≡ own w k
and-bit w zero =
    let e : w / 1 % 2 * 1 ≡ w % 2 = omega arith in
    and_mask w 1 ∙ sym e
and-bit w (suc k) =
    and_step w (2 ^ suc k)
    ∙ ap (λ (x : ℕ). bit_and (w / 2) x * 2 + min (w % 2) (2 ^ suc k % 2)) half
    ∙ ap (λ (x : ℕ). bit_and (w / 2) (2 ^ k) * 2 + min (w % 2) x) even
    ∙ ap (λ (x : ℕ). bit_and (w / 2) (2 ^ k) * 2 + x) (min-zero (w % 2))
    ∙ add-zero (bit_and (w / 2) (2 ^ k) * 2)
    ∙ ap (λ (x : ℕ). x * 2) (and-bit (w / 2) k)
    ∙ sym (own-suc w k)
  where
    half : 2 ^ suc k / 2 ≡ 2 ^ k
    half = let e = pow-suc 2 k in omega arith

    even : 2 ^ suc k % 2 ≡ 0
    even = let e = pow-suc 2 k in omega arith

-- the code's way: the bit is taken out, and put in again where it is asked for
module _ (w k : ℕ) (h : k < width) (f : w < 2 ^ width) where
  is_one : 1 * 2 ^ k % 2 ^ width ≡ 2 ^ k
  is_one = shl_exact 1 k width (omega arith) (omega arith) ∙ one-mul (2 ^ k)

  taken : bit_and w (1 * 2 ^ k % 2 ^ width) ≡ own w k
  taken = ap (bit_and w) is_one ∙ and-bit w k

  less : bit_and w (1 * 2 ^ k % 2 ^ width) ≤ w
  less = and_le_l w (1 * 2 ^ k % 2 ^ width)

  pub turned-off : w - bit_and w (1 * 2 ^ k % 2 ^ width) ≡ turn w k false
  turned-off =
      let t = turn-bits width w k false h f in
      let z : 0 * 2 ^ k ≡ 0 = zero-mul (2 ^ k) in
      omega (arith, taken, less)

  pub turned_on : (w - bit_and w (1 * 2 ^ k % 2 ^ width)) + 1 * 2 ^ k % 2 ^ width ≡ turn w k true
  turned_on =
      let t = turn-bits width w k true h f in
      let z : 1 * 2 ^ k ≡ 2 ^ k = one-mul (2 ^ k) in
      omega (arith, taken, less, is_one)

pub turn-lt : (w k : ℕ) (b : Bool) → turn w k b < 2 ^ width
turn-lt w k b =
    let e : length (set (bits width w) k b) ≡ width = length-set (bits width w) k b ∙ length-bits width w in
    let h : word (set (bits width w) k b) < 2 ^ length (set (bits width w) k b) = word_lt (set (bits width w) k b) in
    rw e at h

-- ---- the ones

pub trues-bits : (n w : ℕ) → w < 2 ^ n → trues (bits n w) ≡ ones w
unfolding bits trues ones ones_in
trues-bits zero w h = let e : w ≡ 0 = omega arith in rw e
trues-bits (suc n) w h =
    let e = trues-bits n (w / 2) (half_lt n w h) in
    let o = bit-odd w in
    let s = ones_step w in
    omega arith
