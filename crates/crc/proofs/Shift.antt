-- The register is linear over exclusive or. So a bit at the input is the same as that bit in the highest place of the register
-- and 0 at the input.
-- Assumes nothing.
use mathlib.Core.Path.{◌≡◌, refl, sym, ap, ap₂, ◌∙◌}
use Prim.Native.Nat.{ℕ, zero, suc, ◌+◌, ◌*◌, ◌/◌, ◌%◌, ◌^◌, ◌≤◌, ◌<◌}
use native.Mathlib.Nat.{zero-add, suc-add}
use native.Mathlib.Omega.{arith}
use lib.Bits.{bit_xor, xor_lt, xor_shr, xor_mod, xor_zero_r}
use Rattle.crc.specs.Crc.{poly, clock}
use Rattle.crc.specs.Shifts.{shift, shifts}
use Rattle.crc.proofs.Xor.{digit, xor-4, xor-shl, xor-pick, xor-zero-eq}

pub clock-lt : (r b : ℕ) → r < 2 ^ 32 → b < 2 → clock r b < 2 ^ 32
unfolding clock
clock-lt r b hr hb =
    let t : bit_xor (r / 2 ^ 31) b < 2 = xor_lt 1 (r / 2 ^ 31) b (omega arith) hb in
    xor_lt 32 (r * 2 % 2 ^ 32) (bit_xor (r / 2 ^ 31) b * poly) (omega arith) (omega arith)

pub clock-xor : (q r b c : ℕ) → q < 2 ^ 32 → r < 2 ^ 32 → b < 2 → c < 2
    → clock (bit_xor q r) (bit_xor b c) ≡ bit_xor (clock q b) (clock r c)
unfolding clock
clock-xor q r b c hq hr hb hc =
    let x = q / 2 ^ 31 in
    let y = r / 2 ^ 31 in
    let hx : x < 2 = omega arith in
    let hy : y < 2 = omega arith in
    ap₂ (λ (u v : ℕ). bit_xor (u % 2 ^ 32) (bit_xor v (bit_xor b c) * poly)) (xor-shl q r 1) (xor_shr q r 31)
    ∙ ap₂ bit_xor (xor_mod (q * 2) (r * 2) 32)
    (ap (λ (u : ℕ). u * poly) (xor-4 x y b c) ∙ xor-pick poly (bit_xor x b) (bit_xor y c) (xor_lt 1 x b hx hb) (xor_lt 1 y c hy hc))
    ∙ xor-4 (q * 2 % 2 ^ 32) (r * 2 % 2 ^ 32) (bit_xor x b * poly) (bit_xor y c * poly)

-- ---- with 0 at the input

pub shift-lt : (r : ℕ) → r < 2 ^ 32 → shift r < 2 ^ 32
unfolding shift
shift-lt r h = clock-lt r 0 h (omega arith)

pub shift-xor : (q r : ℕ) → q < 2 ^ 32 → r < 2 ^ 32 → shift (bit_xor q r) ≡ bit_xor (shift q) (shift r)
unfolding shift
shift-xor q r hq hr = clock-xor q r 0 0 hq hr (omega arith) (omega arith)

pub clock-shift : (r b : ℕ) → r < 2 ^ 32 → b < 2 → clock r b ≡ shift (bit_xor r (b * 2 ^ 31))
unfolding clock shift
clock-shift r b hr hb =
    ap (λ (x : ℕ). clock x b) (sym (xor_zero_r r))
    ∙ clock-xor r 0 0 b hr (omega arith) (omega arith) hb
    ∙ ap (bit_xor (shift r)) (digit (λ (b : ℕ). clock 0 b ≡ shift (b * 2 ^ 31)) refl refl b hb)
    ∙ sym (shift-xor r (b * 2 ^ 31) hr (omega arith))

-- by the digit that leaves the register
shift-digit : (r t : ℕ) → r / 2 ^ 31 ≡ t → shift r ≡ bit_xor (r * 2 % 2 ^ 32) (t * poly)
unfolding clock shift
shift-digit r t e = ap (λ (x : ℕ). bit_xor (r * 2 % 2 ^ 32) (x * poly)) (xor_zero_r (r / 2 ^ 31) ∙ e)

pub shift-low : (r : ℕ) → r < 2 ^ 31 → shift r ≡ r * 2 % 2 ^ 32
shift-low r h = shift-digit r 0 (omega arith) ∙ xor_zero_r (r * 2 % 2 ^ 32)

pub shift-high : (r : ℕ) → 2 ^ 31 ≤ r → r < 2 ^ 32 → shift r ≡ bit_xor (r * 2 % 2 ^ 32) poly
shift-high r l h = shift-digit r 1 (omega arith)

-- only 0 moves to 0, since the polynomial is odd
shift_zero : (r : ℕ) → r < 2 ^ 32 → shift r ≡ 0 → r ≡ 0
shift_zero r h e =
    let t = r / 2 ^ 31 in
    let q : r * 2 % 2 ^ 32 ≡ t * poly = xor-zero-eq (r * 2 % 2 ^ 32) (t * poly) (sym (shift-digit r t refl) ∙ e) in
    let whole : r * 2 ≡ r * 2 % 2 ^ 32 + t * 2 ^ 32 = omega arith in
    digit (λ (d : ℕ). t ≡ d → r ≡ 0) (λ z. omega arith) (λ z. let odd : r * 2 ≡ poly + 2 ^ 32 = omega arith in omega arith)
    t (omega arith) refl

-- ---- n times

pub shifts_none : (r : ℕ) → shifts 0 r ≡ r
unfolding shifts
shifts_none r = refl

pub shifts-next : (n r : ℕ) → shifts (suc n) r ≡ shift (shifts n r)
unfolding shifts
shifts-next n r = refl

pub shifts-first : (n r : ℕ) → shifts n (shift r) ≡ shifts (suc n) r
unfolding shifts
shifts-first zero r = refl
shifts-first (suc n) r = ap shift (shifts-first n r)

pub shifts-shifts : (m n r : ℕ) → shifts m (shifts n r) ≡ shifts (m + n) r
unfolding shifts
shifts-shifts zero n r = ap (λ (k : ℕ). shifts k r) (sym (zero-add n))
shifts-shifts (suc m) n r = ap shift (shifts-shifts m n r) ∙ ap (λ (k : ℕ). shifts k r) (sym (suc-add m n))

pub shifts-lt : (n r : ℕ) → r < 2 ^ 32 → shifts n r < 2 ^ 32
unfolding shifts
shifts-lt zero r h = h
shifts-lt (suc n) r h = shift-lt (shifts n r) (shifts-lt n r h)

pub shifts-xor : (n q r : ℕ) → q < 2 ^ 32 → r < 2 ^ 32 → shifts n (bit_xor q r) ≡ bit_xor (shifts n q) (shifts n r)
unfolding shifts
shifts-xor zero q r hq hr = refl
shifts-xor (suc n) q r hq hr = ap shift (shifts-xor n q r hq hr) ∙ shift-xor (shifts n q) (shifts n r) (shifts-lt n q hq) (shifts-lt n r hr)

pub shifts-zero : (n r : ℕ) → r < 2 ^ 32 → shifts n r ≡ 0 → r ≡ 0
unfolding shifts
shifts-zero zero r h e = e
shifts-zero (suc n) r h e = shifts-zero n r h (shift_zero (shifts n r) (shifts-lt n r h) e)

pub shifts-of-zero : (n : ℕ) → shifts n 0 ≡ 0
unfolding clock shift shifts
shifts-of-zero zero = refl
shifts-of-zero (suc n) = ap shift (shifts-of-zero n)
