-- When a loop is refused, exactly, and with which figures.
-- Assumes nothing.
use mathlib.Core.Path.{◌≡◌, refl, sym, ap, ◌∙◌}
use mathlib.Core.Logic.{◌↔◌}
use Prim.Native.Nat.{ℕ, ◌+◌, ◌≤◌, ◌<◌}
use native.Mathlib.Omega.{arith}
use mathlib.Core.Bool.{Bool, true, false}
use mathlib.Core.List.{List, [], ◌∷◌, ◌++◌, append_assoc}
use lib.Dec.{ltb}
use lib.ListN.{length, drop, length-drop, length-append}
use borrow.Author.Tests.{ltb-true, ltb-false}
use Rattle.wire.specs.Lists.{Bytes}
use Rattle.wire.specs.Refusals.{descriptor_cut}
use Rattle.wire.specs.Verdict.{bad, Fine}
use Rattle.wire.proofs.Among.{among-fine, among-never}
use Rattle.wire.proofs.Lists.{bytes_drop}
use Rattle.wire.proofs.Verdicts.{refused-row, row-says}
use Rattle.descriptors.specs.Syntax.{Descriptor, descriptor_bytes, loop_bytes, LoopFits}
use Rattle.descriptors.specs.Reading.{size_of, descriptor_of, cut_verdict}
use Rattle.descriptors.proofs.Loops.{over-loops, loop-empty, loop-more, cut_on, cut-here}
use Rattle.descriptors.proofs.Rebuild.{front-rebuilt, front_fits}

-- the loop from p on is whole descriptors and then one of which fewer bytes are left than it takes: n of them, from q on
pub record Cut (p : ℕ) (xs : List ℕ) (q n : ℕ) : Type 0 where
  pub before : List Descriptor
  pub rest : List ℕ
  pub fit : LoopFits before
  pub whole : xs ≡ loop_bytes before ++ rest
  pub some : 0 < length rest
  pub short : length rest < size_of rest
  pub place : q ≡ p + length (loop_bytes before)
  pub left : n ≡ length rest

-- ---- refused, so cut

cut-none : (p q n : ℕ) → cut_verdict p [] ≡ bad descriptor_cut q n → Cut p [] q n
cut-none p q n v = absurd (among-never [] Fine descriptor_cut (among-fine []) refl q n (sym (loop-empty p).1 ∙ v))

module _ (xs : List ℕ) (h : 0 < length xs) (p q n : ℕ) (v : cut_verdict p xs ≡ bad descriptor_cut q n) where
  cut-first : length xs < size_of xs → Cut p xs q n
  cut-first k =
      let says = row-says true _ _ _ _ _ _ (refused-row true descriptor_cut p (length xs) refl ∙ sym (cut-here xs h k p) ∙ v) in
      record { before = []; rest = xs; fit = tt; whole = refl; some = h; short = k; place = omega (arith, says.1.0); left = sym says.1.1 }

  cut_later : Bytes xs → size_of xs ≤ length xs → (cut_verdict (p + size_of xs) (drop (size_of xs) xs) ≡ bad descriptor_cut q n → Cut (p + size_of xs) (drop (size_of xs) xs) q n) → Cut p xs q n
  cut_later b k on =
      let c = on (sym (cut_on xs h k p) ∙ v) in
      let first = descriptor_bytes (descriptor_of xs) in
      let size : length first + length (drop (size_of xs) xs) ≡ length xs = sym (length-append first (drop (size_of xs) xs)) ∙ ap length (front-rebuilt xs k) in
      record {
        before = descriptor_of xs ∷ c.before;
        rest = c.rest;
        fit = (front_fits xs b k, c.fit);
        whole = sym (front-rebuilt xs k) ∙ ap (λ r. first ++ r) c.whole ∙ sym (append_assoc first (loop_bytes c.before) c.rest);
        some = c.some;
        short = c.short;
        place = omega (arith, c.place, length-append first (loop_bytes c.before), length-drop (size_of xs) xs);
        left = c.left;
      }

pub refused-cut : (p : ℕ) (xs : List ℕ) (q n : ℕ) → Bytes xs → cut_verdict p xs ≡ bad descriptor_cut q n → Cut p xs q n
refused-cut p xs q n = over-loops (λ ys. (r : ℕ) → Bytes ys → cut_verdict r ys ≡ bad descriptor_cut q n → Cut r ys q n) (λ r b v. cut-none r q n v) one xs p
  where
    one : (ys : List ℕ) → 0 < length ys → ((r : ℕ) → Bytes (drop (size_of ys) ys) → cut_verdict r (drop (size_of ys) ys) ≡ bad descriptor_cut q n → Cut r (drop (size_of ys) ys) q n)
        → (r : ℕ) → Bytes ys → cut_verdict r ys ≡ bad descriptor_cut q n → Cut r ys q n
    one ys h k r b v = by (ltb (length ys) (size_of ys)) refl
      where
        by : (t : Bool) → ltb (length ys) (size_of ys) ≡ t → Cut r ys q n
        by true e = cut-first ys h r q n v (ltb-true (length ys) (size_of ys) e)
        by false e = cut_later ys h r q n v b (ltb-false (length ys) (size_of ys) e) (k (r + size_of ys) (bytes_drop (size_of ys) ys b))

-- ---- cut, so refused

cut-behind : (p : ℕ) (ds : List Descriptor) (zs : List ℕ) → 0 < length zs → length zs < size_of zs → cut_verdict p (loop_bytes ds ++ zs) ≡ bad descriptor_cut (p + length (loop_bytes ds)) (length zs)
cut-behind p [] zs h k = let z : p ≡ p + 0 = omega arith in cut-here zs h k p ∙ ap (λ q. bad descriptor_cut q (length zs)) z
cut-behind p (d ∷ ds) zs h k =
    let at : p + length (descriptor_bytes d) + length (loop_bytes ds) ≡ p + length (descriptor_bytes d ++ loop_bytes ds) = omega (arith, length-append (descriptor_bytes d) (loop_bytes ds)) in
    ap (cut_verdict p) (append_assoc (descriptor_bytes d) (loop_bytes ds) zs) ∙ (loop-more d (loop_bytes ds ++ zs) p).1
    ∙ cut-behind (p + length (descriptor_bytes d)) ds zs h k ∙ ap (λ q. bad descriptor_cut q (length zs)) at

pub cut-refused : (p : ℕ) (xs : List ℕ) (q n : ℕ) → Cut p xs q n → cut_verdict p xs ≡ bad descriptor_cut q n
cut-refused p xs q n c = rw (c.whole, c.place, c.left) (cut-behind p c.before c.rest c.some c.short)

pub cut-exactly : (p : ℕ) (xs : List ℕ) (q n : ℕ) → Bytes xs → (cut_verdict p xs ≡ bad descriptor_cut q n) ↔ Cut p xs q n
cut-exactly p xs q n b = (refused-cut p xs q n b, cut-refused p xs q n)
