-- Words in a row: what they leave is linear in what was left before them and in each of them.
-- Assumes nothing.
use mathlib.Core.Path.{◌≡◌, refl, sym, ap, ◌∙◌}
use Prim.Native.Nat.{ℕ, ◌+◌, ◌*◌, ◌^◌, ◌<◌}
use mathlib.Core.List.{List, [], ◌∷◌, ◌++◌}
use native.Mathlib.Omega.{arith}
use lib.Dec.{lit<}
use lib.Bits.{bit_xor, xor_lt, xor_comm}
use lib.ListN.{length}
use Rattle.crc.specs.Shifts.{shifts}
use Rattle.crc.proofs.Xor.{xor_assoc}
use Rattle.crc.proofs.Shift.{shifts_none, shifts-lt, shifts-xor, shifts-shifts}
use Rattle.crc_register.specs.Remainder.{remainder}
use Rattle.crc_words.specs.Words.{after}
use Rattle.crc_register.proofs.Remainder.{remainder-lt, remainder-xor}

-- each has 64 digits
abbrev pub Words : List ℕ → Type 0
Words [] = Unit {0}
Words (w ∷ ws) = (w < 2 ^ 64) × Words ws

-- their digits
abbrev pub span : List ℕ → ℕ
span [] = 0
span (w ∷ ws) = span ws + 64

pub span-length : (ws : List ℕ) → span ws ≡ 64 * length ws
span-length [] = refl
span-length (w ∷ ws) = let ih = span-length ws in omega arith

pub words_more : (ws : List ℕ) → Words ws → Words (ws ++ 0 ∷ [])
words_more [] all = (lit< tt, tt)
words_more (w ∷ ws) (h, all) = (h, words_more ws all)

-- one word more
pub next-lt : {h w : ℕ} → h < 2 ^ 32 → w < 2 ^ 64 → bit_xor (shifts 64 h) (remainder w) < 2 ^ 32
next-lt {h} hh hw = xor_lt 32 _ _ (shifts-lt 64 h hh) (remainder-lt hw)

pub after-lt : (ws : List ℕ) {h : ℕ} → h < 2 ^ 32 → Words ws → after h ws < 2 ^ 32
after-lt [] hh all = hh
after-lt (w ∷ ws) hh (hw, all) = after-lt ws (next-lt hh hw) all

pub after-append : (ws vs : List ℕ) (h : ℕ) → after h (ws ++ vs) ≡ after (after h ws) vs
after-append [] vs h = refl
after-append (w ∷ ws) vs h = after-append ws vs _

-- what was added before them
pub after-xor : (ws : List ℕ) {h g : ℕ} → h < 2 ^ 32 → g < 2 ^ 32 → Words ws
    → after (bit_xor h g) ws ≡ bit_xor (after h ws) (shifts (span ws) g)
after-xor [] {h} {g} hh hg all = ap (bit_xor h) (sym (shifts_none g))
after-xor (w ∷ ws) {h} {g} hh hg (hw, all) =
    let a = shifts 64 h in
    let b = shifts 64 g in
    let q = remainder w in
    ap (λ (x : ℕ). after x ws)
    (ap (λ (x : ℕ). bit_xor x q) (shifts-xor 64 h g hh hg) ∙ xor_assoc a b q ∙ ap (bit_xor a) (xor_comm b q) ∙ sym (xor_assoc a q b))
    ∙ after-xor ws (next-lt hh hw) (shifts-lt 64 g hg) all
    ∙ ap (bit_xor (after (bit_xor a q) ws)) (shifts-shifts (span ws) 64 g)

-- what was added to the first of them
pub first-xor : (ws : List ℕ) {h a x : ℕ} → h < 2 ^ 32 → a < 2 ^ 64 → x < 2 ^ 64 → Words ws
    → after h (bit_xor a x ∷ ws) ≡ bit_xor (after h (a ∷ ws)) (shifts (span ws) (remainder x))
first-xor ws {h} {a} {x} hh ha hx all =
    ap (λ (y : ℕ). after y ws)
    (ap (bit_xor (shifts 64 h)) (remainder-xor ha hx) ∙ sym (xor_assoc (shifts 64 h) (remainder a) (remainder x)))
    ∙ after-xor ws (next-lt hh ha) (remainder-lt hx) all
