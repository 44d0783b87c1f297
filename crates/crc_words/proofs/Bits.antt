-- Bits at the input of the register: what they leave there is what the number that they write leaves.
-- Assumes nothing.
use mathlib.Core.Path.{◌≡◌, refl, sym, ap, ap₂, ◌∙◌}
use Prim.Native.Nat.{ℕ, suc, ◌+◌, ◌-◌, ◌*◌, ◌/◌, ◌^◌, ◌≤◌, ◌<◌}
use mathlib.Core.List.{List, [], ◌∷◌, ◌++◌}
use native.Mathlib.Nat.{add_comm}
use native.Mathlib.Numerals.{add-one}
use native.Mathlib.Omega.{arith}
use lib.Dec.{lit<}
use lib.Pow.{high, low}
use lib.Bits.{bit_xor, xor_zero_r}
use lib.ListN.{length, take, drop, take-append-drop, length-drop}
use lib.Seq.{take-add, drop-drop, length-take-le}
use Rattle.wire.specs.Lists.{Bytes, part}
use Rattle.wire.specs.Numbers.{bytes32, be32}
use Rattle.wire.proofs.Lists.{bytes-at}
use Rattle.wire.proofs.Words.{be32-rebuild, length-bytes32}
use Rattle.crc.specs.Crc.{clock, clocked, bits_of}
use Rattle.crc.specs.Shifts.{shift, shifts}
use Rattle.crc.proofs.Xor.{digit}
use Rattle.crc.proofs.Shift.{clock-lt, clock-xor, shifts_none, shifts-first, shifts-lt, shifts-xor, shifts-shifts, shifts-of-zero}
use Rattle.crc.proofs.Input.{Bits, none, more, bits-bytes, number, number_lt, number_append, word_number}
use Rattle.crc.proofs.Ending.{clocked-append, bits-append}
use Rattle.crc_register.specs.Remainder.{remainder}
use Rattle.crc_words.specs.Words.{be64}
use Rattle.crc_register.proofs.Remainder.{value, value-lt, value-small, value-parts, value-remainder}

-- ---- a register r, and the bits apart

clocked-xor : (bs : List ℕ) (r q : ℕ) → Bits bs → r < 2 ^ 32 → q < 2 ^ 32
    → clocked (bit_xor r q) bs ≡ bit_xor (shifts (length bs) r) (clocked q bs)
unfolding shift
clocked-xor [] r q none hr hq = ap (λ (x : ℕ). bit_xor x q) (sym (shifts_none r))
clocked-xor (b ∷ bs) r q (more hb hs) hr hq =
    ap (λ (x : ℕ). clocked x bs) (clock-xor r q 0 b hr hq (lit< tt) hb)
    ∙ clocked-xor bs (clock r 0) (clock q b) hs (clock-lt r 0 hr (lit< tt)) (clock-lt q b hq hb)
    ∙ ap (λ (x : ℕ). bit_xor x (clocked (clock q b) bs)) (shifts-first (length bs) r)

apart : (bs : List ℕ) (r : ℕ) → Bits bs → r < 2 ^ 32 → clocked r bs ≡ bit_xor (shifts (length bs) r) (clocked 0 bs)
apart bs r all h = ap (λ (x : ℕ). clocked x bs) (sym (xor_zero_r r)) ∙ clocked-xor bs r 0 all h (lit< tt)

length-bits : (s : List ℕ) → length (bits_of s) ≡ 8 * length s
length-bits [] = refl
length-bits (x ∷ s) = let ih = length-bits s in omega arith

pub from_zero : (s : List ℕ) (r : ℕ) → r < 2 ^ 32 → clocked r (bits_of s) ≡ bit_xor (shifts (8 * length s) r) (clocked 0 (bits_of s))
from_zero s r h =
    apart (bits_of s) r (bits-bytes s) h ∙ ap (λ (n : ℕ). bit_xor (shifts n r) (clocked 0 (bits_of s))) (length-bits s)

-- ---- the bits by their number

first_bit : (b : ℕ) → b < 2 → clock 0 b ≡ shifts 32 b
unfolding clock shift shifts
first_bit b h = digit (λ (b : ℕ). clock 0 b ≡ shifts 32 b) refl refl b h

bits_left : (bs : List ℕ) → Bits bs → clocked 0 bs ≡ shifts 32 (value (length bs) (number bs))
unfolding number value
bits_left [] none = sym (shifts-of-zero 32)
bits_left (b ∷ bs) (more hb hs) =
    let n = length bs in
    let m = number bs in
    let w = b * 2 ^ n + m in
    let hm = number_lt bs hs in
    let small : b < 2 ^ 32 = omega arith in
    let whole : value (suc n) w ≡ bit_xor (shifts n b) (value n m) =
    ap (λ (k : ℕ). value k w) (sym (add-one n)) ∙ value-parts n 1 w
    ∙ ap₂ (λ (x y : ℕ). bit_xor (shifts n (value 1 x)) (value n y)) (high b n hm) (low b n hm)
    ∙ ap (λ (x : ℕ). bit_xor (shifts n x) (value n m)) (value-small 1 b (omega arith) hb) in
    apart bs (clock 0 b) hs (clock-lt 0 b (lit< tt) hb)
    ∙ ap₂ (λ (x y : ℕ). bit_xor (shifts n x) y) (first_bit b hb) (bits_left bs hs)
    ∙ ap (λ (x : ℕ). bit_xor x (shifts 32 (value n m)))
    (shifts-shifts n 32 b ∙ ap (λ (k : ℕ). shifts k b) (add_comm n 32) ∙ sym (shifts-shifts 32 n b))
    ∙ sym (shifts-xor 32 (shifts n b) (value n m) (shifts-lt n b small) (value-lt n m))
    ∙ ap (shifts 32) (sym whole)

-- ---- bytes of a message s

-- the first m, at most eight
first_read : (s : List ℕ) (m : ℕ) → m ≤ 8 → m ≤ length s
    → clocked 0 (bits_of s) ≡ clocked (shifts 32 (remainder (number (bits_of (take m s))))) (bits_of (drop m s))
first_read s m h l =
    let t = bits_of (take m s) in
    let n : length t ≤ 64 = omega (arith, length-bits (take m s), length-take-le m s l) in
    ap (λ (x : List ℕ). clocked 0 (bits_of x)) (sym (take-append-drop m s))
    ∙ ap (clocked 0) (bits-append (take m s) (drop m s))
    ∙ clocked-append t (bits_of (drop m s)) 0
    ∙ ap (λ (x : ℕ). clocked x (bits_of (drop m s)))
    (bits_left t (bits-bytes (take m s)) ∙ ap (shifts 32) (value-remainder (length t) n (number_lt t (bits-bytes (take m s)))))

number-two : (xs ys : List ℕ) → number (bits_of (xs ++ ys)) ≡ number (bits_of xs) * 2 ^ (8 * length ys) + number (bits_of ys)
number-two xs ys =
    ap number (bits-append xs ys)
    ∙ number_append (bits_of xs) (bits_of ys)
    ∙ ap (λ (n : ℕ). number (bits_of xs) * 2 ^ n + number (bits_of ys)) (length-bits ys)

module _ (s : List ℕ) (bs : Bytes s) where
  be32-lt : (i : ℕ) → be32 s i < 2 ^ 32
  be32-lt i = omega (arith, bytes-at s i bs, bytes-at s (i + 1) bs, bytes-at s (i + 2) bs, bytes-at s (i + 3) bs)

  pub be64-lt : (i : ℕ) → be64 s i < 2 ^ 64
  be64-lt i = let a = be32-lt i in let b = be32-lt (i + 4) in omega arith

  word_bytes : (i : ℕ) → i + 8 ≤ length s → number (bits_of (part s i 8)) ≡ be64 s i
  word_bytes i h =
      let a = be32 s i in
      let b = be32 s (i + 4) in
      ap (λ (x : List ℕ). number (bits_of x))
      (take-add 4 4 (drop i s)
      ∙ ap₂ (λ (x y : List ℕ). x ++ y) (sym (be32-rebuild s i bs (omega arith)))
      (ap (take 4) (drop-drop 4 i s) ∙ sym (be32-rebuild s (i + 4) bs (omega arith))))
      ∙ number-two (bytes32 a) (bytes32 b)
      ∙ ap (λ (n : ℕ). number (bits_of (bytes32 a)) * 2 ^ (8 * n) + number (bits_of (bytes32 b))) (length-bytes32 b)
      ∙ ap₂ (λ (x y : ℕ). x * 2 ^ 32 + y) (word_number a (be32-lt i)) (word_number b (be32-lt (i + 4)))

  -- the word at i
  pub word_read : (i : ℕ) → i + 8 ≤ length s
      → clocked 0 (bits_of (drop i s)) ≡ clocked (shifts 32 (remainder (be64 s i))) (bits_of (drop (i + 8) s))
  word_read i h =
      let l : 8 ≤ length (drop i s) = simp length-drop (omega arith) in
      first_read (drop i s) 8 (omega arith) l
      ∙ ap₂ (λ (x : ℕ) (t : List ℕ). clocked (shifts 32 (remainder x)) (bits_of t)) (word_bytes i h) (drop-drop 8 i s)

  -- the first m bytes, which are the highest of the word at 0
  pub part-read : (m : ℕ) → m ≤ 8 → 8 ≤ length s
      → clocked 0 (bits_of s) ≡ clocked (shifts 32 (remainder (be64 s 0 / 2 ^ (64 - 8 * m)))) (bits_of (drop m s))
  part-read m hm h =
      let k = 8 - m in
      let e : 8 ≡ m + k = omega arith in
      let rest = take k (drop m s) in
      let n : length rest ≡ k = length-take-le k (drop m s) (simp length-drop (omega arith)) in
      let bits : 8 * length rest ≡ 64 - 8 * m = omega arith in
      let small : number (bits_of rest) < 2 ^ (64 - 8 * m) =
      rw (← bits, ← length-bits rest) (number_lt (bits_of rest) (bits-bytes rest)) in
      let word : be64 s 0 ≡ number (bits_of (take m s)) * 2 ^ (64 - 8 * m) + number (bits_of rest) =
      sym (word_bytes 0 h)
      ∙ ap (λ (x : List ℕ). number (bits_of x)) (ap (λ (j : ℕ). take j s) e ∙ take-add m k s)
      ∙ number-two (take m s) rest
      ∙ ap (λ (j : ℕ). number (bits_of (take m s)) * 2 ^ j + number (bits_of rest)) bits in
      first_read s m hm (omega arith)
      ∙ ap (λ (x : ℕ). clocked (shifts 32 (remainder x)) (bits_of (drop m s)))
      (sym (ap (λ (x : ℕ). x / 2 ^ (64 - 8 * m)) word ∙ high (number (bits_of (take m s))) (64 - 8 * m) small))
