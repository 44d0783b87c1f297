-- The count over plain lists: what the recursion answers, case by case, and the walk over the loop by its answers. The code's returns cite these.
-- Assumes nothing.
use mathlib.Core.Path.{◌≡◌, refl, sym, ap, ◌∙◌}
use Prim.Native.Nat.{ℕ, zero, suc, ◌+◌, ◌-◌, ◌≤◌, ◌<◌}
use native.Mathlib.Nat.{add-zero}
use native.Mathlib.Omega.{arith}
use mathlib.Core.Bool.{Bool, true, false}
use mathlib.Core.List.{List, [], ◌∷◌}
use lib.Dec.{ltb}
use lib.ListN.{length, drop, length-drop, drop_of_length-le}
use lib.Seq.{drop-drop}
use borrow.Author.Tests.{lt-ltb, le-ltb, ltb-true, ltb-false}
use Rattle.wire.specs.Choice.{pick}
use Rattle.wire.specs.Lists.{part}
use Rattle.wire.specs.Refusals.{descriptor_cut}
use Rattle.wire.specs.Verdict.{bad, Fine}
use Rattle.wire.proofs.Lists.{rest_part}
use Rattle.descriptors.specs.Syntax.{head_length}
use Rattle.descriptors.specs.Reading.{size_of, descriptors_of, cut_verdict}
use Rattle.descriptors.specs.Stages.{stopped, one_more, front_of}
use Rattle.descriptors.specs.declared.Front.{Front}
use Rattle.descriptors.proofs.Loops.{loop-empty, descriptors-more, cut_on, cut-here, count-le}

-- ---- the recursion

-- the size where the length is cut off
pub size-short : (xs : List ℕ) → length xs < head_length → head_length ≡ size_of xs
size-short [] h = refl
size-short (x ∷ []) h = refl
size-short (x ∷ y ∷ xs) h = absurd (omega arith)

pub front-none : (n : ℕ) (xs : List ℕ) → n ≡ 0 → stopped xs ≡ front_of n xs
unfolding front_of
front-none n xs e = rw e

pub front_cut : (n : ℕ) (xs : List ℕ) → length xs < size_of xs → stopped xs ≡ front_of n xs
unfolding front_of
front_cut zero xs h = refl
front_cut (suc n) xs h = rw (lt-ltb (length xs) (size_of xs) h)

front-suc : (n : ℕ) (xs : List ℕ) → size_of xs ≤ length xs → one_more (front_of n (drop (size_of xs) xs)) ≡ front_of (suc n) xs
unfolding front_of
front-suc n xs h = rw (le-ltb (length xs) (size_of xs) h)

-- the shorter loop as the code has it, the part behind the descriptor
pub front-more : (n : ℕ) (xs : List ℕ) (size : ℕ) (f : Front) → 0 < n → size ≡ size_of xs → size ≤ length xs → f ≡ front_of (n - 1) (part xs size (length xs - size)) → one_more f ≡ front_of n xs
front-more n xs size f h is k e =
    let one : suc (n - 1) ≡ n = omega arith in
    ap one_more (e ∙ ap (front_of (n - 1)) (rest_part xs size ∙ ap (λ z. drop z xs) is)) ∙ front-suc (n - 1) xs (omega arith) ∙ ap (λ m. front_of m xs) one

-- no more than so many are counted
most-in : (n : ℕ) (xs : List ℕ) → (front_of n xs).count ≤ n
unfolding front_of
most-in zero xs = omega arith
most-in (suc n) xs = by (ltb (length xs) (size_of xs)) (most-in n (drop (size_of xs) xs))
  where
    by : (b : Bool) → (front_of n (drop (size_of xs) xs)).count ≤ n → (pick b (stopped xs) (one_more (front_of n (drop (size_of xs) xs)))).count ≤ suc n
    by true h = omega arith
    by false h = omega arith

pub front-most : (n : ℕ) (xs : List ℕ) (f : Front) → f ≡ front_of n xs → f.count ≤ n
front-most n xs f e = rw e (most-in n xs)

-- none is counted only where the first is cut off
stuck-in : (n : ℕ) (xs : List ℕ) → (front_of (suc n) xs).count ≡ 0 → length xs < size_of xs
unfolding front_of
stuck-in n xs = by (ltb (length xs) (size_of xs)) refl
  where
    by : (b : Bool) → ltb (length xs) (size_of xs) ≡ b → (pick b (stopped xs) (one_more (front_of n (drop (size_of xs) xs)))).count ≡ 0 → length xs < size_of xs
    by true t e = ltb-true (length xs) (size_of xs) t
    by false t e = absurd (omega arith)

-- ---- what the recursion's answer says of the loop

-- its descriptors are those of the first `taken` bytes, and behind them, where so many bytes are left, the loop goes on
record Fronted (xs : List ℕ) (f : Front) : Type 0 where
  taken : ℕ
  whole : taken + f.left ≡ length xs
  ahead : f.count ≤ taken
  number : length (descriptors_of xs) ≡ f.count + length (descriptors_of (drop taken xs))
  same : (p : ℕ) → cut_verdict p xs ≡ cut_verdict (p + taken) (drop taken xs)

fronted-none : (xs : List ℕ) → Fronted xs (stopped xs)
fronted-none xs = record { taken = 0; whole = omega arith; ahead = omega arith; number = omega arith; same = λ p. ap (λ q. cut_verdict q xs) (sym (add-zero p)) }

fronted-more : (xs : List ℕ) (f : Front) → size_of xs ≤ length xs → Fronted (drop (size_of xs) xs) f → Fronted xs (one_more f)
fronted-more xs f h k =
    let some : 0 < length xs = omega arith in
    let left : length (drop (size_of xs) xs) ≡ length xs - size_of xs = length-drop (size_of xs) xs in
    let past : drop k.taken (drop (size_of xs) xs) ≡ drop (size_of xs + k.taken) xs = drop-drop k.taken (size_of xs) xs in
    let first : length (descriptors_of xs) ≡ suc (length (descriptors_of (drop (size_of xs) xs))) = ap length (descriptors-more xs some) in
    let others : length (descriptors_of (drop (size_of xs) xs)) ≡ f.count + length (descriptors_of (drop (size_of xs + k.taken) xs)) = k.number ∙ ap (λ r. f.count + length (descriptors_of r)) past in
    record {
      taken = size_of xs + k.taken;
      whole = omega (arith, k.whole);
      ahead = omega (arith, k.ahead);
      number = omega arith;
      same = λ p.
          let at : p + size_of xs + k.taken ≡ p + (size_of xs + k.taken) = omega arith in
          cut_on xs some h p ∙ k.same (p + size_of xs) ∙ (λ i. cut_verdict (at i) (past i));
    }

fronted-in : (n : ℕ) (xs : List ℕ) → Fronted xs (front_of n xs)
unfolding front_of
fronted-in zero xs = fronted-none xs
fronted-in (suc n) xs = by (ltb (length xs) (size_of xs)) refl (fronted-in n (drop (size_of xs) xs))
  where
    by : (b : Bool) → ltb (length xs) (size_of xs) ≡ b → Fronted (drop (size_of xs) xs) (front_of n (drop (size_of xs) xs)) → Fronted xs (pick b (stopped xs) (one_more (front_of n (drop (size_of xs) xs))))
    by true t k = fronted-none xs
    by false t k = fronted-more xs _ (ltb-false (length xs) (size_of xs) t) k

-- ---- the walk: n descriptors from `start` on are behind it, and it stands at p

pub record Walking (xs : List ℕ) (start p n : ℕ) : Type 0 where
  pub number : n + length (descriptors_of (drop p xs)) ≡ length (descriptors_of (drop start xs))
  pub same : cut_verdict p (drop p xs) ≡ cut_verdict start (drop start xs)

pub walk_start : (xs : List ℕ) (start : ℕ) → Walking xs start start 0
walk_start xs start = record { number = omega arith; same = refl }

-- past the descriptors that the recursion counted
pub record Stepped (xs : List ℕ) (start p n : ℕ) (f : Front) : Type 0 where
  pub inside : f.left ≤ length xs
  pub ahead : p + f.count ≤ length xs - f.left
  pub room : n + f.count ≤ length xs
  pub next : Walking xs start (length xs - f.left) (n + f.count)

module _ (xs : List ℕ) (start p n k : ℕ) (f : Front) (h : p < length xs) (is : f ≡ front_of k (part xs p (length xs - p))) (w : Walking xs start p n) where
  front : Fronted (drop p xs) f
  front = rw (is, rest_part xs p) (fronted-in k (drop p xs))

  pub walk-on : Stepped xs start p n f
  walk-on =
      let left : length (drop p xs) ≡ length xs - p = length-drop p xs in
      let size : length (drop start xs) ≡ length xs - start = length-drop start xs in
      let at : p + front.taken ≡ length xs - f.left = omega (arith, front.whole) in
      let past : drop front.taken (drop p xs) ≡ drop (length xs - f.left) xs = drop-drop front.taken p xs ∙ ap (λ q. drop q xs) at in
      let others : length (descriptors_of (drop p xs)) ≡ f.count + length (descriptors_of (drop (length xs - f.left) xs)) = front.number ∙ ap (λ r. f.count + length (descriptors_of r)) past in
      record {
        inside = omega (arith, front.whole);
        ahead = omega (arith, front.whole, front.ahead);
        room = omega (arith, w.number, count-le (drop start xs));
        next = record { number = omega (arith, w.number); same = sym (front.same p ∙ (λ i. cut_verdict (at i) (past i))) ∙ w.same };
      }

  -- where none is counted
  pub walk-cut : 0 < k → f.count ≡ 0 → cut_verdict start (drop start xs) ≡ bad descriptor_cut p (length xs - p)
  walk-cut b z =
      let left : length (drop p xs) ≡ length xs - p = length-drop p xs in
      let one : k ≡ suc (k - 1) = omega arith in
      let none : (front_of (suc (k - 1)) (drop p xs)).count ≡ 0 = ap (λ g. g.count) (sym (is ∙ (λ i. front_of (one i) (rest_part xs p i)))) ∙ z in
      sym w.same ∙ cut-here (drop p xs) (omega arith) (stuck-in (k - 1) (drop p xs) none) p ∙ ap (bad descriptor_cut p) left

-- at the end
pub walk-done : (xs : List ℕ) (start p n : ℕ) → length xs ≤ p → Walking xs start p n → (cut_verdict start (drop start xs) ≡ Fine) × (length (descriptors_of (drop start xs)) ≡ n)
walk-done xs start p n h w =
    let none : drop p xs ≡ [] = drop_of_length-le xs h in
    (sym w.same ∙ ap (cut_verdict p) none ∙ (loop-empty p).1, omega (arith, w.number, ap length (ap descriptors_of none ∙ (loop-empty p).0)))
