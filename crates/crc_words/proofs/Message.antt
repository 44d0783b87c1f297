-- What is due of a CRC in the midst of a message: behind its first bytes, when a word is read, and when none is left.
-- Assumes nothing.
use mathlib.Core.Path.{◌≡◌, sym, ap, ap₂, ◌∙◌}
use Prim.Native.Nat.{ℕ, suc, ◌+◌, ◌-◌, ◌*◌, ◌^◌, ◌≤◌, ◌<◌}
use mathlib.Core.List.{List, [], ◌∷◌, ◌++◌}
use native.Mathlib.Omega.{arith}
use lib.Dec.{lit<}
use lib.Bits.{bit_xor, xor_comm, xor_shr, xor_zero_r}
use lib.ListN.{length, drop, length-append, length-drop, drop_of_length-le}
use Rattle.wire.specs.Lists.{Bytes}
use Rattle.crc.specs.Crc.{clocked, bits_of, start, crc_of}
use Rattle.crc.specs.Shifts.{shifts}
use Rattle.crc.proofs.Xor.{xor_assoc}
use Rattle.crc.proofs.Shift.{shifts-lt, shifts-shifts, shifts-xor}
use Rattle.crc_register.specs.Remainder.{remainder}
use Rattle.crc_words.specs.Words.{after, be64, due}
use Rattle.crc_register.proofs.Remainder.{remainder-lt, remainder-small, remainder-xor, above, below, above-lt, moved}
use Rattle.crc_words.proofs.Words.{Words, span, span-length, next-lt, after-lt, after-append, after-xor}
use Rattle.crc_words.proofs.Bits.{from_zero, be64-lt, word_read, part-read}

-- what the bytes from j on make of what was left before them
on : (s : List ℕ) (j q : ℕ) → q < 2 ^ 32
    → clocked (shifts 32 q) (bits_of (drop j s)) ≡ bit_xor (shifts (8 * (length s - j) + 32) q) (clocked 0 (bits_of (drop j s)))
on s j q h =
    from_zero (drop j s) (shifts 32 q) (shifts-lt 32 q h)
    ∙ ap (λ (x : ℕ). bit_xor x (clocked 0 (bits_of (drop j s))))
    (ap (λ (n : ℕ). shifts (8 * n) (shifts 32 q)) (length-drop j s) ∙ shifts-shifts (8 * (length s - j)) 32 q)

-- ---- other words that leave the same

pub due-same : (s : List ℕ) (i : ℕ) (ws vs : List ℕ) (h g : ℕ) → length ws ≡ length vs → after h ws ≡ after g vs → due s i h ws ≡ due s i g vs
unfolding due
due-same s i ws vs h g l e = ap₂ (λ (n : ℕ) (x : ℕ). bit_xor (shifts (8 * (length s - (i + 8 * n)) + 32) x) (clocked 0 (bits_of (drop i s)))) l e

-- a word 0 behind the others adds nothing
pub one_more : (s : List ℕ) (i h : ℕ) (ws : List ℕ) → i + 8 * length ws + 8 ≤ length s → due s i h (ws ++ 0 ∷ []) ≡ due s i h ws
unfolding due
one_more s i h ws l =
    let d = 8 * (length s - (i + 8 * length (ws ++ 0 ∷ []))) + 32 in
    let e : d + 64 ≡ 8 * (length s - (i + 8 * length ws)) + 32 = simp length-append (omega arith) in
    let t = after h ws in
    let rest = clocked 0 (bits_of (drop i s)) in
    ap (λ (x : ℕ). bit_xor (shifts d x) rest)
    (after-append ws (0 ∷ []) h ∙ ap (bit_xor (shifts 64 t)) (remainder-small (lit< tt)) ∙ xor_zero_r (shifts 64 t))
    ∙ ap (λ (x : ℕ). bit_xor x rest) (shifts-shifts d 64 t ∙ ap (λ (x : ℕ). shifts x t) e)

-- the register's start as a word
start_word : remainder (start * 2 ^ 32) ≡ shifts 32 start
unfolding remainder
start_word = xor_zero_r (shifts 32 start)

-- ---- bytes read

-- no word is left
pub none_left : (s : List ℕ) (h : ℕ) → h < 2 ^ 32 → due s (length s) h [] ≡ shifts 32 h
unfolding due
none_left s h hh =
    let n : 8 * (length s - (length s + 0)) + 32 ≡ 8 * (length s - length s) + 32 = omega arith in
    ap (λ (x : ℕ). bit_xor (shifts x h) (clocked 0 (bits_of (drop (length s) s)))) n
    ∙ sym (on s (length s) h hh)
    ∙ ap (λ (t : List ℕ). clocked (shifts 32 h) (bits_of t)) (drop_of_length-le s {i = length s} (omega arith))

module _ (s : List ℕ) (bs : Bytes s) where
  -- the next word, with what is to be added to it
  pub taken_in : (i : ℕ) {h a : ℕ} (ws : List ℕ) → i + 8 * length (a ∷ ws) ≤ length s → h < 2 ^ 32 → a < 2 ^ 64 → Words ws
      → due s i h (a ∷ ws) ≡ due s (i + 8) (bit_xor (shifts 64 h) (remainder (bit_xor (be64 s i) a))) ws
  unfolding due
  taken_in i {h} {a} ws l hh ha all =
      let n = length s in
      let k = length ws in
      let e = 8 * (n - (i + 8 + 8 * k)) + 32 in
      let p = bit_xor (shifts 64 h) (remainder a) in
      let q = remainder (be64 s i) in
      let c = clocked 0 (bits_of (drop (i + 8) s)) in
      let hw = be64-lt s bs i in
      let hp : p < 2 ^ 32 = next-lt hh ha in
      let hq = remainder-lt hw in
      let same : 8 * (n - (i + 8 * suc k)) + 32 ≡ e = omega arith in
      let bits : 8 * (n - (i + 8)) + 32 ≡ e + span ws = omega (arith, span-length ws) in
      let message : clocked 0 (bits_of (drop i s)) ≡ bit_xor (shifts (e + span ws) q) c =
      word_read s bs i (omega arith) ∙ on s (i + 8) q hq ∙ ap (λ (x : ℕ). bit_xor (shifts x q) c) bits in
      let both : after (bit_xor (shifts 64 h) (remainder (bit_xor (be64 s i) a))) ws ≡ bit_xor (after p ws) (shifts (span ws) q) =
      ap (λ (x : ℕ). after x ws)
      (ap (bit_xor (shifts 64 h)) (remainder-xor hw ha ∙ xor_comm q (remainder a)) ∙ sym (xor_assoc (shifts 64 h) (remainder a) q))
      ∙ after-xor ws hp hq all in
      ap₂ (λ (x y : ℕ). bit_xor (shifts x (after p ws)) y) same message
      ∙ sym (xor_assoc (shifts e (after p ws)) (shifts (e + span ws) q) c)
      ∙ sym (ap (λ (x : ℕ). bit_xor x c)
      (ap (shifts e) both ∙ shifts-xor e _ _ (after-lt ws hp all) (shifts-lt (span ws) q hq)
      ∙ ap (bit_xor (shifts e (after p ws))) (shifts-shifts e (span ws) q)))

  -- The first m bytes. The start is added to the first four: where m is less, to the next word too.
  pub begun : (m : ℕ) → m ≤ 8 → m + 8 ≤ length s
      → due s m (remainder (above (8 * m) (bit_xor (be64 s 0) (start * 2 ^ 32)))) (below (8 * m) (start * 2 ^ 32) ∷ []) ≡ crc_of s
  unfolding due crc_of
  begun m hm l =
      let n = length s in
      let k = 8 * m in
      let hk : k ≤ 64 = omega arith in
      let b = be64 s 0 in
      let f = start * 2 ^ 32 in
      let hb = be64-lt s bs 0 in
      let hf : f < 2 ^ 64 = lit< tt in
      let x = remainder (above k b) in
      let y = remainder (above k f) in
      let z = remainder (below k f) in
      let hx = remainder-lt (above-lt k hk hb) in
      let hy = remainder-lt (above-lt k hk hf) in
      let hs : start < 2 ^ 32 = lit< tt in
      let e = 8 * (n - (m + 8)) + 32 in
      let c = clocked 0 (bits_of (drop m s)) in
      let front : e + 64 ≡ 8 * (n - m) + 32 = omega arith in
      let back : e + (k + 32) ≡ 8 * n = omega arith in
      let left : bit_xor (shifts 64 (remainder (above k (bit_xor b f)))) z ≡ bit_xor (shifts 64 x) (shifts (k + 32) start) =
      ap (λ (w : ℕ). bit_xor (shifts 64 w) z)
      (ap remainder (xor_shr b f (64 - k)) ∙ remainder-xor (above-lt k hk hb) (above-lt k hk hf))
      ∙ ap (λ (w : ℕ). bit_xor w z) (shifts-xor 64 x y hx hy)
      ∙ xor_assoc (shifts 64 x) (shifts 64 y) z
      ∙ ap (bit_xor (shifts 64 x)) (sym (moved k hk hf) ∙ ap (shifts k) start_word ∙ shifts-shifts k 32 start) in
      let message : clocked start (bits_of s) ≡ bit_xor (shifts (8 * n) start) (bit_xor (shifts (8 * (n - m) + 32) x) c) =
      from_zero s start hs ∙ ap (bit_xor (shifts (8 * n) start)) (part-read s bs m hm (omega arith) ∙ on s m x hx) in
      ap (λ (w : ℕ). bit_xor (shifts e w) c) left
      ∙ ap (λ (w : ℕ). bit_xor w c)
      (shifts-xor e _ _ (shifts-lt 64 x hx) (shifts-lt (k + 32) start hs)
      ∙ ap₂ bit_xor (shifts-shifts e 64 x ∙ ap (λ (j : ℕ). shifts j x) front) (shifts-shifts e (k + 32) start ∙ ap (λ (j : ℕ). shifts j start) back)
      ∙ xor_comm (shifts (8 * (n - m) + 32) x) (shifts (8 * n) start))
      ∙ xor_assoc (shifts (8 * n) start) (shifts (8 * (n - m) + 32) x) c
      ∙ sym message
