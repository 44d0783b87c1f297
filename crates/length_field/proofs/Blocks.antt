-- The 12-bit length with its four bits, and a block behind it: what was written at p is read at p, and what is read at p,
-- written, is what stands there.
-- Assumes nothing.
use mathlib.Core.Path.{◌≡◌, refl, sym, ap, ◌∙◌}
use Prim.Native.Nat.{ℕ, ◌+◌, ◌-◌, ◌*◌, ◌/◌, ◌%◌, ◌≤◌, ◌<◌}
use native.Mathlib.Omega.{arith}
use mathlib.Core.List.{List, [], ◌∷◌, ◌++◌, append_assoc}
use lib.ListN.{length, take, drop, get_or}
use lib.Seq.{take-add, take_at}
use Rattle.wire.specs.Lists.{Bytes, part}
use Rattle.length_field.specs.Lengths.{longest, widest_beside, length_bytes, length_at, beside_at, Block, BlockFits, block_bytes, block_at, block_end, long_row, last_rows, block_rows, block_verdict, last_verdict}
use mathlib.Core.Bool.{Bool, true, false}
use lib.Dec.{ltb}
use borrow.Author.Tests.{lt-ltb, le-ltb, ltb-true, ltb-false}
use Rattle.wire.specs.Verdict.{bad, refuse, ◌▷◌, Fine}
use Rattle.wire.proofs.Verdicts.{then-fine, fine-then, go_on, stop, passed-ltb, pass-ltb}
use Rattle.wire.proofs.Lists.{bytes-at, bytes-part, bytes-append, length_part, two-part, at_drop, at-drop-first, drop_past}

-- ---- the two bytes alone

pub length-length_bytes : (r n : ℕ) → length (length_bytes r n) ≡ 2
unfolding length_bytes
length-length_bytes r n = refl

pub length_bytes-bytes : (r n : ℕ) → r ≤ widest_beside → n ≤ longest → Bytes (length_bytes r n)
unfolding length_bytes
length_bytes-bytes r n hr hn = (omega arith, (omega arith, tt))

pub record LengthRead (xs : List ℕ) (p r n : ℕ) : Type 0 where
  pub length_is : length_at xs p ≡ n
  pub beside_is : beside_at xs p ≡ r

pub length_back : (xs : List ℕ) (p r n : ℕ) (post : List ℕ) → n ≤ longest → drop p xs ≡ length_bytes r n ++ post → LengthRead xs p r n
unfolding length_bytes
length_back xs p r n post h e =
    let y0 : get_or xs p 0 ≡ r * 16 + n / 256 = at-drop-first xs p _ e in
    let y1 : get_or xs (p + 1) 0 ≡ n % 256 = at_drop xs p 1 _ e in
    record { length_is = omega arith; beside_is = omega arith }

pub length-rebuild : (xs : List ℕ) (p : ℕ) → Bytes xs → p + 2 ≤ length xs → length_bytes (beside_at xs p) (length_at xs p) ≡ part xs p 2
unfolding length_bytes
length-rebuild xs p b h = (λ i. hi i ∷ lo i ∷ []) ∙ two-part xs p h
  where
    hi : beside_at xs p * 16 + length_at xs p / 256 ≡ get_or xs p 0
    hi = omega (arith, bytes-at xs (p + 1) b)

    lo : length_at xs p % 256 ≡ get_or xs (p + 1) 0
    lo = omega (arith, bytes-at xs (p + 1) b)

pub length-short : (xs : List ℕ) (p : ℕ) → Bytes xs → length_at xs p ≤ longest
length-short xs p b = omega (arith, bytes-at xs (p + 1) b)

pub beside-narrow : (xs : List ℕ) (p : ℕ) → Bytes xs → beside_at xs p ≤ widest_beside
beside-narrow xs p b = omega (arith, bytes-at xs p b, bytes-at xs (p + 1) b)

-- ---- a block

pub block-length : (b : Block) → length (block_bytes b) ≡ 2 + length b.body
unfolding block_bytes length_bytes
block-length b = omega arith

pub block-bytes : (b : Block) → BlockFits b → Bytes (block_bytes b)
unfolding block_bytes
block-bytes b f = bytes-append (length_bytes b.beside (length b.body)) b.body (length_bytes-bytes b.beside (length b.body) f.narrow f.short) f.bytes

-- a place behind is further on
pub block_up : (xs : List ℕ) (p : ℕ) → p < block_end xs p
block_up xs p = omega arith

pub record BlockRead (xs : List ℕ) (p : ℕ) (b : Block) (post : List ℕ) : Type 0 where
  pub len : length_at xs p ≡ length b.body
  pub same : block_at xs p ≡ b
  pub past : drop (block_end xs p) xs ≡ post

pub block_back : (xs : List ℕ) (p : ℕ) (b : Block) (post : List ℕ) → BlockFits b → drop p xs ≡ block_bytes b ++ post → BlockRead xs p b post
unfolding block_bytes
block_back xs p b post f e =
    record { len = two.length_is; same = λ i. record { beside = two.beside_is i; body = body_ok i }; past = drop_past xs (p + 2) (length_at xs p) b.body post rest (sym two.length_is) }
  where
    split : drop p xs ≡ length_bytes b.beside (length b.body) ++ (b.body ++ post)
    split = e ∙ append_assoc (length_bytes b.beside (length b.body)) b.body post

    two : LengthRead xs p b.beside (length b.body)
    two = length_back xs p b.beside (length b.body) (b.body ++ post) f.short split

    rest : drop (p + 2) xs ≡ b.body ++ post
    rest = drop_past xs p 2 (length_bytes b.beside (length b.body)) (b.body ++ post) split (length-length_bytes b.beside (length b.body))

    body_ok : part xs (p + 2) (length_at xs p) ≡ b.body
    body_ok = rw (rest, two.length_is) (take_at b.body post (length b.body) refl)

pub block-rebuild : (xs : List ℕ) (p : ℕ) → Bytes xs → block_end xs p ≤ length xs → take p xs ++ block_bytes (block_at xs p) ≡ take (block_end xs p) xs
unfolding block_bytes
block-rebuild xs p b h =
    rw (length_part xs (p + 2) (length_at xs p) h, length-rebuild xs p b (omega arith))
    (sym (append_assoc (take p xs) (part xs p 2) (part xs (p + 2) n)) ∙ ap (λ r. r ++ part xs (p + 2) n) (sym (take-add p 2 xs)) ∙ sym (take-add (p + 2) n xs))
  where
    n : ℕ
    n = length_at xs p

pub block-fits : (xs : List ℕ) (p : ℕ) → Bytes xs → block_end xs p ≤ length xs → BlockFits (block_at xs p)
block-fits xs p b h =
    record { narrow = beside-narrow xs p b; short = rw (length_part xs (p + 2) (length_at xs p) h) (length-short xs p b); bytes = bytes-part xs (p + 2) (length_at xs p) b }

-- ---- a test of an end, as one of what is left

less-left : (e q n : ℕ) → q ≤ e → ltb e (q + n) ≡ ltb (e - q) n
less-left e q n h = go (ltb (e - q) n) refl
  where
    go : (b : Bool) → ltb (e - q) n ≡ b → ltb e (q + n) ≡ b
    go true t = lt-ltb e (q + n) (omega (arith, ltb-true (e - q) n t))
    go false t = le-ltb e (q + n) (omega (arith, ltb-false (e - q) n t))

more_left : (e q n : ℕ) → q ≤ e → ltb (q + n) e ≡ ltb n (e - q)
more_left e q n h = go (ltb n (e - q)) refl
  where
    go : (b : Bool) → ltb n (e - q) ≡ b → ltb (q + n) e ≡ b
    go true t = lt-ltb (q + n) e (omega (arith, ltb-true n (e - q) t))
    go false t = le-ltb (q + n) e (omega (arith, ltb-false n (e - q) t))

-- ---- the rows of a block, whatever the figures of the second

module _ (cut long f g : ℕ) (xs : List ℕ) (e p : ℕ) where
  pub block-passed : block_rows cut long f g xs e p ≡ Fine → block_end xs p ≤ e
  unfolding block_rows
  block-passed v = passed-ltb _ _ _ _ _ (then-fine _ _ v).1

  pub block-pass : block_end xs p ≤ e → block_rows cut long f g xs e p ≡ Fine
  unfolding block_rows
  block-pass h = fine-then _ _ (pass-ltb e (p + 2) _ _ _ (omega arith)) (pass-ltb _ _ _ _ _ h)

  pub block-cut : e < p + 2 → block_rows cut long f g xs e p ≡ bad cut (p + 2) e
  unfolding block_rows refuse ◌▷◌
  block-cut h = rw (lt-ltb _ _ h)

  pub block-long : p + 2 ≤ e → e < block_end xs p → block_rows cut long f g xs e p ≡ bad long f g
  unfolding block_rows refuse ◌▷◌
  block-long h k = rw (le-ltb _ _ h, lt-ltb _ _ k)

-- past the length field the declared length stands against what is left
module _ (cut long : ℕ) (xs : List ℕ) (e p : ℕ) (h : p + 2 ≤ e) where
  pub block-left : block_verdict cut long xs e p ≡ long_row long (length_at xs p) (e - (p + 2))
  unfolding block_rows long_row
  block-left = go_on _ _ (pass-ltb e (p + 2) _ _ _ h) ∙ ap (λ b. refuse b long (length_at xs p) (e - (p + 2))) (less-left e (p + 2) (length_at xs p) h)

  pub last-left : (slack : ℕ) → last_verdict cut long slack xs e p ≡ last_rows long slack (length_at xs p) (e - (p + 2))
  unfolding last_verdict last_rows
  last-left slack =
      let d : e - block_end xs p ≡ e - (p + 2) - length_at xs p = omega arith in
      rw (block-left, more_left e (p + 2) (length_at xs p) h, d)

-- ---- a block that is the last

module _ (cut long slack : ℕ) (xs : List ℕ) (e p : ℕ) where
  pub last-passed : last_verdict cut long slack xs e p ≡ Fine → block_end xs p ≡ e
  unfolding last_verdict
  last-passed v =
      let two = then-fine _ _ v in
      omega (arith, block-passed cut long _ _ xs e p two.0, passed-ltb (block_end xs p) e _ _ _ two.1)

  pub last-pass : block_end xs p ≡ e → last_verdict cut long slack xs e p ≡ Fine
  unfolding last_verdict
  last-pass h = fine-then _ _ (block-pass cut long _ _ xs e p (omega arith)) (pass-ltb (block_end xs p) e _ _ _ (omega arith))

  pub last-cut : e < p + 2 → last_verdict cut long slack xs e p ≡ bad cut (p + 2) e
  unfolding last_verdict
  last-cut h = stop _ _ _ _ _ (block-cut cut long _ _ xs e p h)
