-- When bytes are moved, and what stands where then.
-- Assumes nothing.
use Prim.Native.Nat.{ℕ, ◌+◌, ◌≤◌, ◌<◌}
use mathlib.Core.Path.{◌≡◌, refl, sym, ap, ◌∙◌}
use mathlib.Core.Bool.{Bool, true, false}
use mathlib.Core.List.{List, ◌++◌}
use native.Mathlib.Omega.{arith}
use lib.Dec.{leb}
use lib.ListN.{length, take, drop, get_or, take-append-drop}
use lib.Seq.{sets, sets-eq, length-sets, take-add, get_or-take, get_or-drop}
use borrow.Author.Tests.{le-leb, lt-leb}
use Rattle.wire.specs.Choice.{pick}
use Rattle.wire.specs.Lists.{part}
use Rattle.wire.proofs.Lists.{length_part}
use Rattle.byte_stores.proofs.Writing.{byte_put, byte-before, byte-behind}
use Rattle.byte_moves.specs.Moves.{both_within, moved_within}

module _ (xs : List ℕ) (p q n : ℕ) where
  -- the answer and the bytes: where both are within, and where one is not
  pub moves : p + n ≤ length xs → q + n ≤ length xs → (true ≡ both_within xs p q n) × (sets xs q (part xs p n) ≡ moved_within xs p q n)
  unfolding both_within moved_within
  moves h l = (simp (le-leb _ _ h, le-leb _ _ l), simp (le-leb _ _ h, le-leb _ _ l))

  pub stays-from : length xs < p + n → (false ≡ both_within xs p q n) × (xs ≡ moved_within xs p q n)
  unfolding both_within moved_within
  stays-from h = (simp (lt-leb _ _ h), simp (lt-leb _ _ h))

  pub stays-to : length xs < q + n → (false ≡ both_within xs p q n) × (xs ≡ moved_within xs p q n)
  unfolding both_within moved_within
  stays-to h = (by (leb (p + n) (length xs)), by2 (leb (p + n) (length xs)))
    where
      no : leb (q + n) (length xs) ≡ false
      no = lt-leb _ _ h

      by : (b : Bool) → false ≡ pick b (leb (q + n) (length xs)) false
      by true = sym no
      by false = refl

      by2 : (b : Bool) → xs ≡ pick (pick b (leb (q + n) (length xs)) false) (sets xs q (part xs p n)) xs
      by2 true = rw no refl
      by2 false = refl

  -- bytes that are there already
  pub stays-there : p ≡ q → q + n ≤ length xs → (true ≡ both_within xs p q n) × (xs ≡ moved_within xs p q n)
  stays-there e l = let h : p + n ≤ length xs = omega arith in ((moves h l).0, sym back ∙ (moves h l).1)
    where
      size : length (part xs q n) ≡ n
      size = length_part xs q n l

      back : sets xs q (part xs p n) ≡ xs
      back =
          ap (λ m. sets xs q (part xs m n)) e ∙ sets-eq (part xs q n) xs q (omega (arith, size))
          ∙ ap (λ m. take q xs ++ part xs q n ++ drop (q + m) xs) size
          ∙ ap (λ r. r ++ drop (q + n) xs) (sym (take-add q n xs))
          ∙ take-append-drop (q + n) xs

  pub moved_length : length (moved_within xs p q n) ≡ length xs
  unfolding moved_within
  moved_length = by (both_within xs p q n)
    where
      by : (b : Bool) → length (pick b (sets xs q (part xs p n)) xs) ≡ length xs
      by true = length-sets xs q (part xs p n)
      by false = refl

  -- byte by byte: a place that was moved to has what stood as far behind p as it is behind q, any other what it had
  module _ (h : p + n ≤ length xs) (l : q + n ≤ length xs) where
    went : moved_within xs p q n ≡ sets xs q (part xs p n)
    went = sym (moves h l).1

    size : length (part xs p n) ≡ n
    size = length_part xs p n h

    room : q + length (part xs p n) ≤ length xs
    room = omega (arith, size)

    pub moved_at : (i : ℕ) → i < n → get_or (moved_within xs p q n) (q + i) 0 ≡ get_or xs (p + i) 0
    moved_at i k =
        ap (λ ys. get_or ys (q + i) 0) went ∙ byte_put xs q (part xs p n) room i (omega (arith, size))
        ∙ get_or-take n (drop p xs) i 0 k ∙ get_or-drop p xs i 0

    pub moved_before : (i : ℕ) → i < q → get_or (moved_within xs p q n) i 0 ≡ get_or xs i 0
    moved_before i k = ap (λ ys. get_or ys i 0) went ∙ byte-before xs q (part xs p n) room i k

    pub moved-behind : (i : ℕ) → get_or (moved_within xs p q n) (q + n + i) 0 ≡ get_or xs (q + n + i) 0
    moved-behind i = ap (λ ys. get_or ys (q + n + i) 0) went ∙ byte-behind xs q (part xs p n) room (q + n) i (omega (arith, size))
