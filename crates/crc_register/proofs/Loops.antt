-- What the code's loops over bits and over bytes keep: a turn of each, and the end; and what four bytes 0 do.
-- Assumes nothing.
use mathlib.Core.Path.{◌≡◌, sym, ap, ◌∙◌}
use Prim.Native.Nat.{ℕ, ◌+◌, ◌*◌, ◌^◌, ◌≤◌, ◌<◌}
use mathlib.Core.List.{List}
use native.Mathlib.Numerals.{add-one}
use native.Mathlib.Omega.{arith}
use lib.Dec.{lit<}
use lib.Bits.{bit_xor, xor_lt, xor_zero_r}
use lib.ListN.{length, get_or, drop, drop_of_length-le}
use lib.Seq.{drop-cons}
use Rattle.crc.specs.Crc.{clocked, bits8, bits_of}
use Rattle.crc.specs.Shifts.{shift, shifts}
use Rattle.crc.proofs.Shift.{shifts-next, shifts-lt, shifts-shifts}
use Rattle.crc.proofs.Input.{byte-input}

-- ---- the bits of a byte x, which is first added to the register r: q is what k clocks make of that

module _ (r x q k : ℕ) (hr : r < 2 ^ 32) (hx : x < 256) (e : q ≡ shifts k (bit_xor r (x * 2 ^ 24))) where
  pub within : q < 2 ^ 32
  within = rw e (shifts-lt k _ (xor_lt 32 r (x * 2 ^ 24) hr (omega arith)))

  -- one clock more
  pub next-clock : {t : ℕ} → shift q ≡ t → t ≡ shifts (k + 1) (bit_xor r (x * 2 ^ 24))
  next-clock h = rw (add-one, shifts-next, ← h, e)

  pub all-clocks : k ≡ 8 → q ≡ clocked r (bits8 x)
  all-clocks h = e ∙ rw h (sym (byte-input r x hr hx))

-- ---- the bytes of a list s

-- one byte more
pub next-byte : (s : List ℕ) (i r : ℕ) → i < length s
    → clocked (clocked r (bits8 (get_or s i 0))) (bits_of (drop (i + 1) s)) ≡ clocked r (bits_of (drop i s))
next-byte s i r h = rw (add-one, drop-cons s i 0)

pub all-bytes : (s : List ℕ) (i r : ℕ) → length s ≤ i → clocked r (bits_of (drop i s)) ≡ r
all-bytes s i r h = rw (drop_of_length-le s h)

-- ---- four bytes 0

idle-byte : (r : ℕ) → r < 2 ^ 32 → clocked r (bits8 0) ≡ shifts 8 r
idle-byte r h = byte-input r 0 h (lit< tt) ∙ ap (shifts 8) (xor_zero_r r)

pub idle-four : (r a b c d : ℕ) → r < 2 ^ 32 → a ≡ clocked r (bits8 0) → b ≡ clocked a (bits8 0) → c ≡ clocked b (bits8 0)
    → d ≡ clocked c (bits8 0) → d ≡ shifts 32 r
idle-four r a b c d h ea eb ec ed = next 24 (next 16 (next 8 (ea ∙ idle-byte r h) eb) ec) ed
  where
    next : (n : ℕ) {x y : ℕ} → x ≡ shifts n r → y ≡ clocked x (bits8 0) → y ≡ shifts (8 + n) r
    next n ex ey =
        ey ∙ ap (λ (x : ℕ). clocked x (bits8 0)) ex ∙ idle-byte (shifts n r) (shifts-lt n r h) ∙ shifts-shifts 8 n r
