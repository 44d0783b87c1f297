-- A loop taken apart: it is empty, or one descriptor and a shorter loop.
-- Assumes nothing.
use mathlib.Core.Path.{◌≡◌, refl, sym, ap, ◌∙◌}
use Prim.Native.Nat.{ℕ, zero, suc, ◌+◌, ◌-◌, ◌*◌, ◌≤◌, ◌<◌}
use native.Mathlib.Nat.{not-suc-le-zero}
use native.Mathlib.Omega.{arith}
use mathlib.Core.List.{List, [], ◌∷◌, ◌++◌}
use lib.ListN.{length, drop, length-drop, length-append}
use lib.Seq.{take_at, drop_at}
use Rattle.wire.specs.Refusals.{descriptor_cut}
use Rattle.wire.specs.Verdict.{bad, ◌▷◌, Fine}
use Rattle.wire.proofs.Among.{Among, among-fine, among-row, among_then}
use Rattle.wire.proofs.Verdicts.{then-fine, go_on, stop, passed-ltb, pass-ltb, break-ltb}
use Rattle.descriptors.specs.Syntax.{head_length, Descriptor, descriptor_bytes}
use Rattle.descriptors.specs.Reading.{size_of, descriptor_of, told_in, told, with_first, descriptors_of, cut_row, row_then, cut_verdict}

-- ---- what is told of a loop

-- the shorter loop is shorter
shorter : (n : ℕ) (xs : List ℕ) → 0 < length xs → length xs ≤ suc n → length (drop (size_of xs) xs) ≤ n
shorter n xs h k =
    let e : length (drop (size_of xs) xs) ≡ length xs - size_of xs = length-drop (size_of xs) xs in
    omega arith

module _ {A : Type 0} (none : A) (one : List ℕ → A → A) where
  -- as many as there are bytes are enough
  enough : (n m : ℕ) (xs : List ℕ) → length xs ≤ n → length xs ≤ m → told_in none one n xs ≡ told_in none one m xs
  enough zero zero xs h k = refl
  enough zero (suc m) [] h k = refl
  enough zero (suc m) (x ∷ xs) h k = absurd (not-suc-le-zero h)
  enough (suc n) zero [] h k = refl
  enough (suc n) zero (x ∷ xs) h k = absurd (not-suc-le-zero k)
  enough (suc n) (suc m) [] h k = refl
  enough (suc n) (suc m) (x ∷ xs) h k =
      ap (one (x ∷ xs)) (enough n m (drop (size_of (x ∷ xs)) (x ∷ xs)) (shorter n (x ∷ xs) (omega arith) h) (shorter m (x ∷ xs) (omega arith) k))

  told_more : (xs : List ℕ) → 0 < length xs → told none one xs ≡ one xs (told none one (drop (size_of xs) xs))
  unfolding told
  told_more [] h = absurd (not-suc-le-zero h)
  told_more (x ∷ xs) h =
      ap (one (x ∷ xs)) (enough (length xs) (length (drop (size_of (x ∷ xs)) (x ∷ xs))) (drop (size_of (x ∷ xs)) (x ∷ xs)) (shorter (length xs) (x ∷ xs) h (omega arith)) (omega arith))

-- what holds of the empty loop, and of a loop if it does of the shorter one, holds of all
pub over-loops : (P : List ℕ → Type 0) → P [] → ((xs : List ℕ) → 0 < length xs → P (drop (size_of xs) xs) → P xs) → (xs : List ℕ) → P xs
over-loops P none one xs = up_to (length xs) xs (omega arith)
  where
    up_to : (n : ℕ) (ys : List ℕ) → length ys ≤ n → P ys
    up_to zero [] h = none
    up_to zero (y ∷ ys) h = absurd (not-suc-le-zero h)
    up_to (suc n) [] h = none
    up_to (suc n) (y ∷ ys) h = one (y ∷ ys) (omega arith) (up_to n (drop (size_of (y ∷ ys)) (y ∷ ys)) (shorter n (y ∷ ys) (omega arith) h))

-- ---- of bytes

pub loop-empty : (p : ℕ) → (descriptors_of [] ≡ []) × (cut_verdict p [] ≡ Fine)
unfolding descriptors_of cut_verdict told
loop-empty p = (refl, refl)

module _ (xs : List ℕ) (h : 0 < length xs) where
  pub descriptors-more : descriptors_of xs ≡ descriptor_of xs ∷ descriptors_of (drop (size_of xs) xs)
  unfolding descriptors_of
  descriptors-more = told_more [] with_first xs h

  pub cut-more : (p : ℕ) → cut_verdict p xs ≡ cut_row p xs ▷ cut_verdict (p + size_of xs) (drop (size_of xs) xs)
  unfolding cut_verdict
  cut-more p = ap (λ v. v p) (told_more (λ q. Fine) row_then xs h)

  -- past a descriptor that is whole, and at one that is cut off
  pub cut_on : size_of xs ≤ length xs → (p : ℕ) → cut_verdict p xs ≡ cut_verdict (p + size_of xs) (drop (size_of xs) xs)
  cut_on k p = cut-more p ∙ go_on _ _ (pass-ltb (length xs) (size_of xs) _ _ _ k)

  pub cut-here : length xs < size_of xs → (p : ℕ) → cut_verdict p xs ≡ bad descriptor_cut p (length xs)
  cut-here k p = cut-more p ∙ stop _ _ _ _ _ (break-ltb (length xs) (size_of xs) _ _ _ k)

  -- where none is cut off the first is whole, and none is cut off behind it
  pub fine_more : (p : ℕ) → cut_verdict p xs ≡ Fine → (size_of xs ≤ length xs) × (cut_verdict (p + size_of xs) (drop (size_of xs) xs) ≡ Fine)
  fine_more p v =
      let two = then-fine _ _ (sym (cut-more p) ∙ v) in
      (passed-ltb (length xs) (size_of xs) _ _ _ two.0, two.1)

-- ---- of what was written

pub descriptor-length : (d : Descriptor) → length (descriptor_bytes d) ≡ head_length + length d.body
descriptor-length d = omega arith

module _ (d : Descriptor) (rest : List ℕ) where
  front-size : size_of (descriptor_bytes d ++ rest) ≡ length (descriptor_bytes d)
  front-size = sym (descriptor-length d)

  front_rest : drop (size_of (descriptor_bytes d ++ rest)) (descriptor_bytes d ++ rest) ≡ rest
  front_rest = drop_at (descriptor_bytes d) rest _ (sym front-size)

  front_same : descriptor_of (descriptor_bytes d ++ rest) ≡ d
  front_same i = record { tag = d.tag; body = take_at d.body rest (length d.body) refl i }

  front-some : 0 < length (descriptor_bytes d ++ rest)
  front-some = omega arith

  front-whole : size_of (descriptor_bytes d ++ rest) ≤ length (descriptor_bytes d ++ rest)
  front-whole = omega (arith, length-append (descriptor_bytes d) rest, front-size)

  pub loop-more : (p : ℕ) → (descriptors_of (descriptor_bytes d ++ rest) ≡ d ∷ descriptors_of rest) × (cut_verdict p (descriptor_bytes d ++ rest) ≡ cut_verdict (p + length (descriptor_bytes d)) rest)
  loop-more p = (
    descriptors-more (descriptor_bytes d ++ rest) front-some ∙ (λ i. front_same i ∷ descriptors_of (front_rest i)),
    cut_on (descriptor_bytes d ++ rest) front-some front-whole p ∙ (λ i. cut_verdict (p + front-size i) (front_rest i)),
  )

-- ---- of any bytes

-- each takes a byte at least, and where none is cut off its head
pub count-le : (xs : List ℕ) → length (descriptors_of xs) ≤ length xs
count-le = over-loops (λ xs. length (descriptors_of xs) ≤ length xs) none one
  where
    none : length (descriptors_of []) ≤ 0
    none = omega (arith, ap length (loop-empty 0).0)

    one : (xs : List ℕ) → 0 < length xs → length (descriptors_of (drop (size_of xs) xs)) ≤ length (drop (size_of xs) xs) → length (descriptors_of xs) ≤ length xs
    one xs h k = omega (arith, ap length (descriptors-more xs h), length-drop (size_of xs) xs)

pub count-fine : (p : ℕ) (xs : List ℕ) → cut_verdict p xs ≡ Fine → head_length * length (descriptors_of xs) ≤ length xs
count-fine p xs = over-loops (λ ys. (q : ℕ) → cut_verdict q ys ≡ Fine → head_length * length (descriptors_of ys) ≤ length ys) none one xs p
  where
    none : (q : ℕ) → cut_verdict q [] ≡ Fine → head_length * length (descriptors_of []) ≤ 0
    none q v = omega (arith, ap length (loop-empty q).0)

    one : (ys : List ℕ) → 0 < length ys → ((q : ℕ) → cut_verdict q (drop (size_of ys) ys) ≡ Fine → head_length * length (descriptors_of (drop (size_of ys) ys)) ≤ length (drop (size_of ys) ys))
        → (q : ℕ) → cut_verdict q ys ≡ Fine → head_length * length (descriptors_of ys) ≤ length ys
    one ys h k q v =
        let two = fine_more ys h q v in
        omega (arith, two.0, k (q + size_of ys) two.1, ap length (descriptors-more ys h), length-drop (size_of ys) ys)

-- whether one is cut off does not hang on the place
pub cut-same : (p q : ℕ) (xs : List ℕ) → cut_verdict p xs ≡ Fine → cut_verdict q xs ≡ Fine
cut-same p q xs = over-loops (λ ys. (p q : ℕ) → cut_verdict p ys ≡ Fine → cut_verdict q ys ≡ Fine) (λ p q v. (loop-empty q).1) one xs p q
  where
    one : (ys : List ℕ) → 0 < length ys → ((p q : ℕ) → cut_verdict p (drop (size_of ys) ys) ≡ Fine → cut_verdict q (drop (size_of ys) ys) ≡ Fine) → (p q : ℕ) → cut_verdict p ys ≡ Fine → cut_verdict q ys ≡ Fine
    one ys h k p q v =
        let two = fine_more ys h p v in
        cut_on ys h two.0 q ∙ k (p + size_of ys) (q + size_of ys) two.1

-- 39 is the only number
pub cut-listed : (p : ℕ) (xs : List ℕ) → Among (descriptor_cut ∷ []) (cut_verdict p xs)
cut-listed p xs = over-loops (λ ys. (q : ℕ) → Among (descriptor_cut ∷ []) (cut_verdict q ys)) (λ q. rw (loop-empty q).1 (among-fine (descriptor_cut ∷ []))) one xs p
  where
    one : (ys : List ℕ) → 0 < length ys → ((q : ℕ) → Among (descriptor_cut ∷ []) (cut_verdict q (drop (size_of ys) ys))) → (q : ℕ) → Among (descriptor_cut ∷ []) (cut_verdict q ys)
    one ys h k q = rw (cut-more ys h q) (among_then (descriptor_cut ∷ []) _ _ (among-row (descriptor_cut ∷ []) _ descriptor_cut _ _ refl) (k (q + size_of ys)))
