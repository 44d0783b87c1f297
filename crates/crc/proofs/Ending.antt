-- What a CRC at the end says: after a message and four bytes the register is 0 exactly if the four bytes are the message's CRC.
-- Assumes nothing.
use mathlib.Core.Path.{◌≡◌, refl, sym, ap, ◌∙◌}
use Prim.Native.Nat.{ℕ, ◌+◌, ◌^◌, ◌≤◌, ◌<◌}
use mathlib.Core.List.{List, [], ◌∷◌, ◌++◌}
use native.Mathlib.Omega.{arith}
use lib.Dec.{lit<}
use lib.ListN.{length, take, drop, length-drop, take-append-drop}
use lib.Seq.{take_all}
use lib.Bits.{bit_xor, xor_lt, xor_self}
use Rattle.wire.specs.Lists.{Bytes}
use Rattle.wire.specs.Numbers.{word32, bytes32, be32}
use Rattle.wire.proofs.Lists.{bytes-at}
use Rattle.wire.proofs.Words.{word32-bytes, be32-rebuild}
use Rattle.crc.specs.Crc.{start, clocked, bits8, bits_of, crc_of}
use Rattle.crc.specs.Shifts.{shifts}
use Rattle.crc.proofs.Xor.{xor-zero-eq}
use Rattle.crc.proofs.Shift.{shifts-zero, shifts-of-zero}
use Rattle.crc.proofs.Input.{clocked-lt, bits-bytes, word-input}

pub crc-lt : (s : List ℕ) → crc_of s < 2 ^ 32
unfolding crc_of
crc-lt s = clocked-lt (bits_of s) start (bits-bytes s) (lit< tt)

pub clocked-append : (s t : List ℕ) (r : ℕ) → clocked r (s ++ t) ≡ clocked (clocked r s) t
clocked-append [] t r = refl
clocked-append (b ∷ s) t r = clocked-append s t _

pub bits-append : (s t : List ℕ) → bits_of (s ++ t) ≡ bits_of s ++ bits_of t
bits-append [] t = refl
bits-append (x ∷ s) t = ap (λ (l : List ℕ). bits8 x ++ l) (bits-append s t)

-- the CRC of a message goes on behind it
pub crc-append : (m t : List ℕ) → crc_of (m ++ t) ≡ clocked (crc_of m) (bits_of t)
unfolding crc_of
crc-append m t = ap (clocked start) (bits-append m t) ∙ clocked-append (bits_of m) (bits_of t) start

-- ---- a message m and the four bytes of v

module _ (m : List ℕ) (v : ℕ) (h : v < 2 ^ 32) where
  after : crc_of (m ++ bytes32 v) ≡ shifts 32 (bit_xor (crc_of m) v)
  after = crc-append m (bytes32 v) ∙ word-input (crc_of m) v (crc-lt m) h

  pub leaves-zero : crc_of m ≡ v → crc_of (m ++ bytes32 v) ≡ 0
  leaves-zero e = after ∙ rw (e, xor_self) (shifts-of-zero 32)

  pub zero-only : crc_of (m ++ bytes32 v) ≡ 0 → crc_of m ≡ v
  zero-only e =
      xor-zero-eq (crc_of m) v (shifts-zero 32 (bit_xor (crc_of m) v) (xor_lt 32 (crc_of m) v (crc-lt m) h) (sym after ∙ e))

-- a message with its CRC behind it
pub sealed : (m : List ℕ) → crc_of (m ++ bytes32 (crc_of m)) ≡ 0
sealed m = leaves-zero m (crc_of m) (crc-lt m) refl

-- ---- a message m and four bytes

module _ (m : List ℕ) (a b c d : ℕ) (ha : a < 256) (hb : b < 256) (hc : c < 256) (hd : d < 256) where
  pub bytes-leave-zero : crc_of m ≡ word32 a b c d → crc_of (m ++ a ∷ b ∷ c ∷ d ∷ []) ≡ 0
  bytes-leave-zero e = rw (word32-bytes a b c d hb hc hd) at (leaves-zero m (word32 a b c d) (omega arith) e)

  pub bytes-zero-only : crc_of (m ++ a ∷ b ∷ c ∷ d ∷ []) ≡ 0 → crc_of m ≡ word32 a b c d
  bytes-zero-only e = zero-only m (word32 a b c d) (omega arith) (rw (word32-bytes a b c d hb hc hd) e)

-- ---- a section s, whose last four bytes stand at n

module _ (s : List ℕ) (n : ℕ) (e : length s ≡ n + 4) (b : Bytes s) where
  ending : take n s ++ bytes32 (be32 s n) ≡ s
  ending =
      let rest : length (drop n s) ≤ 4 = simp length-drop (omega arith) in
      rw (be32-rebuild s n b (omega arith), take_all 4 (drop n s) rest) (take-append-drop n s)

  stored-lt : be32 s n < 2 ^ 32
  stored-lt = omega (arith, bytes-at s n b, bytes-at s (n + 1) b, bytes-at s (n + 2) b, bytes-at s (n + 3) b)

  pub zero-of-stored : be32 s n ≡ crc_of (take n s) → crc_of s ≡ 0
  zero-of-stored q = rw ending at (leaves-zero (take n s) (be32 s n) stored-lt (sym q))

  pub stored-of-zero : crc_of s ≡ 0 → be32 s n ≡ crc_of (take n s)
  stored-of-zero q = sym (zero-only (take n s) (be32 s n) stored-lt (rw ending q))
