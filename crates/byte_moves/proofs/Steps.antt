-- A step of a move: the next w bytes, a run of them, one or what is left, go to their places. What was moved before has not reached them.
-- Assumes nothing.
use Prim.Native.Nat.{ℕ, suc, ◌+◌, ◌-◌, ◌≤◌, ◌<◌}
use mathlib.Core.Path.{◌≡◌, refl, sym, ap, ◌∙◌}
use mathlib.Core.List.{List, [], ◌∷◌, ◌++◌, append_assoc}
use native.Mathlib.Omega.{arith}
use native.Mathlib.Nat.{add-zero, add-suc, suc-add}
use lib.ListN.{length, take, drop, get_or, set, length-drop, take-append-drop, drop_of_length-le}
use lib.Seq.{sets, sets-eq, set_comm, length-sets, take_all, drop-drop, take-add, length-take-le}
use Rattle.std.specs.List.{copy_within}
use Rattle.wire.specs.Lists.{part}
use Rattle.wire.proofs.Lists.{firsts-part, length_part, part-part, drop-take}
use Rattle.byte_stores.specs.Stores.{put_at}
use Rattle.byte_stores.proofs.Writing.{sets-append, sets-before, sets_behind, sets-take, copied}
use Rattle.byte_moves.specs.Stages.{moved_up, moved_down}

-- ---- a run before a run

set_first : (xs : List ℕ) (i : ℕ) (vs : List ℕ) (j a : ℕ) → j < i → set (sets xs i vs) j a ≡ sets (set xs j a) i vs
set_first xs i [] j a h = refl
set_first xs i (v ∷ vs) j a h = set_first (set xs i v) (suc i) vs j a (omega arith) ∙ ap (λ r. sets r (suc i) vs) (set_comm xs i j v a (λ e. omega arith))

sets-front : (xs vs ws : List ℕ) (i : ℕ) → sets (sets xs (i + length vs) ws) i vs ≡ sets xs i (vs ++ ws)
sets-front xs [] ws i = rw add-zero
sets-front xs (v ∷ vs) ws i =
    ap (λ r. sets r (suc i) vs) (set_first xs (i + suc (length vs)) ws i v (omega arith))
    ∙ ap (λ j. sets (sets (set xs i v) j ws) (suc i) vs) (add-suc i (length vs) ∙ sym (suc-add i (length vs)))
    ∙ sets-front (set xs i v) vs ws (suc i)

-- ---- parts of a list that was written to before them or behind them

part-before : (xs vs : List ℕ) (at p w : ℕ) → at + length vs ≤ length xs → p + w ≤ at → part (sets xs at vs) p w ≡ part xs p w
part-before xs vs at p w l h = cut (sets xs at vs) (omega (arith, length-sets xs at vs)) ∙ ap (drop p) (sets-before xs at vs l (p + w) h) ∙ sym (cut xs (omega arith))
  where
    cut : (ys : List ℕ) → p + w ≤ length ys → part ys p w ≡ drop p (take (p + w) ys)
    cut ys k = let m : p + w - p ≡ w = omega arith in ap (part ys p) (sym m) ∙ sym (drop-take ys p (p + w) (omega arith) k)

part-behind : (xs vs : List ℕ) (at p w : ℕ) → at + length vs ≤ length xs → at + length vs ≤ p → part (sets xs at vs) p w ≡ part xs p w
part-behind xs vs at p w l h = ap (take w) (sets_behind xs at vs l p h)

one-part : (xs : List ℕ) (p : ℕ) → p < length xs → get_or xs p 0 ∷ [] ≡ part xs p 1
one-part xs p h = firsts-part 1 xs p (omega arith)

-- ---- a run, by way of bytes that start as zs

pub run_moved : (xs zs cs ys : List ℕ) (p q n : ℕ) → p + n ≤ length xs → q + n ≤ length xs → length zs ≡ n
    → cs ≡ put_at zs 0 (take (p + n - p) (drop p xs)) → ys ≡ put_at xs q cs → ys ≡ sets xs q (part xs p n)
run_moved xs zs cs ys p q n hp hq hz c y = (copied xs ys (part xs p n) q n (y ∙ ap (put_at xs q) copy) size hq).bytes
  where
    width : p + n - p ≡ n
    width = omega arith

    size : length (part xs p n) ≡ n
    size = length_part xs p n hp

    stored : cs ≡ sets zs 0 (part xs p n)
    stored = (copied zs cs (part xs p n) 0 n (c ∙ ap (λ m. put_at zs 0 (take m (drop p xs))) width) size (omega arith)).bytes

    copy : cs ≡ part xs p n
    copy =
        let e : n ≡ 0 + length (part xs p n) = omega (arith, size) in
        let all : length cs ≡ n = ap length stored ∙ length-sets zs 0 (part xs p n) ∙ hz in
        sym (take_all n cs (omega arith)) ∙ ap (take n) stored ∙ ap (λ m. take m (sets zs 0 (part xs p n))) e ∙ sets-take zs 0 (part xs p n) (omega (arith, size))

pub at-start : (xs : List ℕ) (p q n : ℕ) → sets xs q (part xs p n) ≡ sets xs (q + 0) (part xs (p + 0) n)
at-start xs p q n = rw (add-zero q, add-zero p) refl

-- ---- up, from the last one down

module _ (xs : List ℕ) (p q n : ℕ) (above : p ≤ q) (room : q + n ≤ length xs) where
  abbrev rising : List ℕ
  rising = part xs p n

  up_step : (k w : ℕ) → k + w ≤ n → sets (moved_up xs p q n (k + w)) (q + k) (part (moved_up xs p q n (k + w)) (p + k) w) ≡ moved_up xs p q n k
  up_step k w next =
      let size : length rising ≡ n = length_part xs p n (omega arith) in
      let rest : length (drop (k + w) rising) ≡ n - (k + w) = length-drop (k + w) rising ∙ ap (λ m. m - (k + w)) size in
      let width : length (part rising k w) ≡ w = length_part rising k w (omega arith) in
      let place : q + (k + w) ≡ q + k + length (part rising k w) = omega arith in
      ap (sets (moved_up xs p q n (k + w)) (q + k)) (part-before xs (drop (k + w) rising) (q + (k + w)) (p + k) w (omega arith) (omega arith) ∙ sym (part-part xs p n k w next))
      ∙ ap (λ m. sets (sets xs m (drop (k + w) rising)) (q + k) (part rising k w)) place
      ∙ sets-front xs (part rising k w) (drop (k + w) rising) (q + k)
      ∙ ap (sets xs (q + k)) (ap (λ r. part rising k w ++ r) (sym (drop-drop w k rising)) ∙ take-append-drop w (drop k rising))

  pub up_none : xs ≡ moved_up xs p q n n
  up_none = sym (ap (sets xs (q + n)) (drop_of_length-le rising {i = n} (omega (arith, length_part xs p n (omega arith)))))

  -- the w bytes before those that were moved
  pub up_more : (ys zs : List ℕ) (m k w : ℕ) → ys ≡ moved_up xs p q n m → m ≤ n → k + w ≡ m → zs ≡ sets ys (q + k) (part ys (p + k) w) → zs ≡ moved_up xs p q n k
  up_more ys zs m k w e h s z =
      let e2 : ys ≡ moved_up xs p q n (k + w) = e ∙ ap (moved_up xs p q n) (sym s) in
      z ∙ ap (λ l. sets l (q + k) (part l (p + k) w)) e2 ∙ up_step k w (omega arith)

  pub up-all : moved_up xs p q n 0 ≡ sets xs q rising
  up-all = ap (λ m. sets xs m rising) (add-zero q)

-- ---- down, from the first one up

module _ (xs : List ℕ) (p q n : ℕ) (below : q ≤ p) (room : p + n ≤ length xs) where
  abbrev falling : List ℕ
  falling = part xs p n

  falling-size : length falling ≡ n
  falling-size = length_part xs p n room

  down_step : (k w : ℕ) → k + w ≤ n → sets (moved_down xs p q n k) (q + k) (part (moved_down xs p q n k) (p + k) w) ≡ moved_down xs p q n (k + w)
  down_step k w next =
      let size : length falling ≡ n = falling-size in
      let done : length (take k falling) ≡ k = length-take-le k falling (omega arith) in
      let place : q + k ≡ q + length (take k falling) = omega arith in
      ap (sets (moved_down xs p q n k) (q + k)) (part-behind xs (take k falling) q (p + k) w (omega arith) (omega arith) ∙ sym (part-part xs p n k w next))
      ∙ ap (λ m. sets (moved_down xs p q n k) m (part falling k w)) place
      ∙ sets-append xs (take k falling) (part falling k w) q
      ∙ ap (sets xs q) (sym (take-add k w falling))

  -- the w bytes behind those that were moved
  pub down-more : (ys zs : List ℕ) (k w : ℕ) → ys ≡ moved_down xs p q n k → k + w ≤ n → zs ≡ sets ys (q + k) (part ys (p + k) w) → zs ≡ moved_down xs p q n (k + w)
  down-more ys zs k w e h z = z ∙ ap (λ l. sets l (q + k) (part l (p + k) w)) e ∙ down_step k w h

  pub down-all : moved_down xs p q n n ≡ sets xs q falling
  down-all = ap (sets xs q) (take_all n falling (omega (arith, falling-size)))

-- ---- a byte is a run of one

pub byte-moved : (xs : List ℕ) (p q : ℕ) → p < length xs → set xs q (get_or xs p 0) ≡ sets xs q (part xs p 1)
byte-moved xs p q h = ap (sets xs q) (one-part xs p h)

-- ---- what is left, by the library

pub within-put : (xs : List ℕ) (p q n e : ℕ) → e ≡ p + n → p + n ≤ length xs → q + n ≤ length xs → copy_within xs p e q ≡ sets xs q (part xs p n)
within-put xs p q n e f h l =
    let k : e - p ≡ n = omega arith in
    let w : length (part xs p n) ≡ n = length_part xs p n h in
    rw (k, sets-eq (part xs p n) xs q (omega arith), w, append_assoc)
