-- A register times a sum of powers of x. Such a sum is a power of x for every register if it is for 1.
-- Assumes nothing.
use mathlib.Core.Path.{◌≡◌, refl, sym, ap, ap₂, ◌∙◌}
use Prim.Native.Nat.{ℕ, ◌+◌, ◌^◌, ◌<◌}
use mathlib.Core.List.{List, [], ◌∷◌, ◌++◌}
use native.Mathlib.Omega.{arith}
use lib.Dec.{lit<}
use lib.Bits.{bit_xor, xor_lt}
use Rattle.crc.specs.Shifts.{shift, shifts}
use Rattle.crc.proofs.Xor.{digit, xor_assoc, xor-4}
use Rattle.crc.proofs.Shift.{shift-lt, shift-xor, shift-low, shifts-next, shifts-first, shifts-lt, shifts-xor, shifts-of-zero}
use Rattle.crc_register.proofs.Remainder.{register-ind}

-- v times x^k, for each k of a list, added up
abbrev pub powers : List ℕ → ℕ → ℕ
powers [] v = 0
powers (k ∷ ks) v = bit_xor (shifts k v) (powers ks v)

powers-lt : (ks : List ℕ) {v : ℕ} → v < 2 ^ 32 → powers ks v < 2 ^ 32
powers-lt [] h = lit< tt
powers-lt (k ∷ ks) {v} h = xor_lt 32 _ _ (shifts-lt k v h) (powers-lt ks h)

powers-zero : (ks : List ℕ) → powers ks 0 ≡ 0
powers-zero [] = refl
powers-zero (k ∷ ks) = ap₂ bit_xor (shifts-of-zero k) (powers-zero ks)

powers-xor : (ks : List ℕ) {q r : ℕ} → q < 2 ^ 32 → r < 2 ^ 32 → powers ks (bit_xor q r) ≡ bit_xor (powers ks q) (powers ks r)
powers-xor [] hq hr = refl
powers-xor (k ∷ ks) {q} {r} hq hr =
    ap₂ bit_xor (shifts-xor k q r hq hr) (powers-xor ks hq hr) ∙ xor-4 (shifts k q) (shifts k r) (powers ks q) (powers ks r)

shift-last : (n r : ℕ) → shifts n (shift r) ≡ shift (shifts n r)
shift-last n r = shifts-first n r ∙ shifts-next n r

powers-shift : (ks : List ℕ) {v : ℕ} → v < 2 ^ 32 → powers ks (shift v) ≡ shift (powers ks v)
powers-shift [] h = sym (shift-low 0 (lit< tt))
powers-shift (k ∷ ks) {v} h =
    ap₂ bit_xor (shift-last k v) (powers-shift ks h) ∙ sym (shift-xor (shifts k v) (powers ks v) (shifts-lt k v h) (powers-lt ks h))

-- the same at 1
pub same-powers : (ks : List ℕ) (n : ℕ) → powers ks 1 ≡ shifts n 1 → (r : ℕ) → r < 2 ^ 32 → powers ks r ≡ shifts n r
same-powers ks n e =
    register-ind (λ (r : ℕ). powers ks r ≡ shifts n r) (powers-zero ks ∙ sym (shifts-of-zero n))
    (λ v b hv hb ih.
    powers-xor ks {q = shift v} {r = b} (shift-lt v hv) (omega arith)
    ∙ ap₂ bit_xor (powers-shift ks hv ∙ ap shift ih ∙ sym (shift-last n v))
    (digit (λ (b : ℕ). powers ks b ≡ shifts n b) (powers-zero ks ∙ sym (shifts-of-zero n)) e b hb)
    ∙ sym (shifts-xor n (shift v) b (shift-lt v hv) (omega arith)))

-- all of them times x^n
abbrev pub raised : ℕ → List ℕ → List ℕ
raised n [] = []
raised n (k ∷ ks) = (n + k) ∷ raised n ks

pub powers-append : (xs ys : List ℕ) (v : ℕ) → bit_xor (powers xs v) (powers ys v) ≡ powers (xs ++ ys) v
powers-append [] ys v = refl
powers-append (k ∷ xs) ys v =
    xor_assoc (shifts k v) (powers xs v) (powers ys v) ∙ ap (bit_xor (shifts k v)) (powers-append xs ys v)
