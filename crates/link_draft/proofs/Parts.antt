-- Parts put down one behind the other: with room for all of them it is one run of their bytes, and whatever the room, the
-- buffer keeps its length and what lies before the first and behind the last.
-- Assumes nothing.
use Prim.Native.Nat.{ℕ, ◌+◌, ◌≤◌, ◌<◌}
use mathlib.Core.Path.{◌≡◌, refl, sym, ◌∙◌}
use mathlib.Core.Bool.{Bool, true, false}
use mathlib.Core.List.{List, [], ◌∷◌, ◌++◌, append_assoc, flatten}
use native.Mathlib.Omega.{arith}
use lib.ListN.{length, take, drop, length-append}
use lib.Seq.{sets, length-sets}
use borrow.Author.Tests.{le-leb, lt-leb, leb-true}
use Rattle.wire.specs.Choice.{pick}
use Rattle.byte_stores.specs.Stores.{room_at, put_at}
use Rattle.byte_stores.proofs.Writing.{sets-append, sets-before, sets_behind}
use Rattle.link_draft.specs.Writing.{put_all}

pub flatten-append : (ps qs : List (List ℕ)) → flatten (ps ++ qs) ≡ flatten ps ++ flatten qs
unfolding flatten
flatten-append [] qs = refl
flatten-append (p ∷ ps) qs = rw (flatten-append ps qs) (sym (append_assoc p (flatten ps) (flatten qs)))

-- ---- one part: what holds of the buffer, and of it with the part where there is room, holds of what is left

put-or-not : (P : List ℕ → Type 0) (xs : List ℕ) (at : ℕ) (p : List ℕ) → P xs → (at + length p ≤ length xs → P (sets xs at p)) → P (put_at xs at p)
put-or-not P xs at p old new = by (room_at xs at p) refl
  where
    by : (b : Bool) → room_at xs at p ≡ b → P (pick b (sets xs at p) xs)
    by true e = new (leb-true _ _ e)
    by false e = old

put-length : (xs : List ℕ) (at : ℕ) (p : List ℕ) → length (put_at xs at p) ≡ length xs
put-length xs at p = put-or-not (λ ys. length ys ≡ length xs) xs at p refl (λ h. length-sets xs at p)

-- ---- all of them

pub all-length : (xs : List ℕ) (at : ℕ) (ps : List (List ℕ)) → length (put_all xs at ps) ≡ length xs
all-length xs at [] = refl
all-length xs at (p ∷ ps) = all-length (put_at xs at p) (at + length p) ps ∙ put-length xs at p

-- from past the end nothing is written
pub all_past : (xs : List ℕ) (at : ℕ) (ps : List (List ℕ)) → length xs < at → put_all xs at ps ≡ xs
all_past xs at [] h = refl
all_past xs at (p ∷ ps) h = rw (lt-leb (at + length p) (length xs) (omega arith)) (all_past xs (at + length p) ps (omega arith))

pub all_room : (xs : List ℕ) (at : ℕ) (ps : List (List ℕ)) → at + length (flatten ps) ≤ length xs → put_all xs at ps ≡ sets xs at (flatten ps)
unfolding flatten
all_room xs at [] h = refl
all_room xs at (p ∷ ps) h =
    let n = length-append p (flatten ps) in
    let room : at + length p ≤ length xs = omega arith in
    rw (le-leb (at + length p) (length xs) room)
    (all_room (sets xs at p) (at + length p) ps (omega (arith, length-sets xs at p)) ∙ sets-append xs p (flatten ps) at)

pub all-before : (xs : List ℕ) (at : ℕ) (ps : List (List ℕ)) (i : ℕ) → i ≤ at → take i (put_all xs at ps) ≡ take i xs
all-before xs at [] i l = refl
all-before xs at (p ∷ ps) i l =
    all-before (put_at xs at p) (at + length p) ps i (omega arith)
    ∙ put-or-not (λ ys. take i ys ≡ take i xs) xs at p refl (λ h. sets-before xs at p h i l)

pub all-behind : (xs : List ℕ) (at : ℕ) (ps : List (List ℕ)) (i : ℕ) → at + length (flatten ps) ≤ i → drop i (put_all xs at ps) ≡ drop i xs
unfolding flatten
all-behind xs at [] i l = refl
all-behind xs at (p ∷ ps) i l =
    let n = length-append p (flatten ps) in
    all-behind (put_at xs at p) (at + length p) ps i (omega arith)
    ∙ put-or-not (λ ys. drop i ys ≡ drop i xs) xs at p refl (λ h. sets_behind xs at p h i (omega arith))
