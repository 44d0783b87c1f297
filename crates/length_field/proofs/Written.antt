-- A length field that is stored.
-- Assumes nothing.
use Prim.Native.Nat.{ℕ, ◌+◌, ◌%◌, ◌≤◌}
use mathlib.Core.Path.{◌≡◌, ap, ◌∙◌}
use mathlib.Core.List.{List}
use native.Mathlib.Omega.{arith}
use lib.ListN.{length}
use Rattle.byte_stores.specs.Stores.{put_at, Wrote}
use Rattle.byte_stores.proofs.Writing.{copied}
use Rattle.length_field.specs.Lengths.{longest, widest_beside, length_bytes}
use Rattle.length_field.proofs.Blocks.{length-length_bytes}

-- a length field, of whose numbers no bit is cut off
pub field-whole : (beside n : ℕ) → beside ≤ widest_beside → n ≤ longest → length_bytes (beside % (widest_beside + 1)) (n % (longest + 1)) ≡ length_bytes beside n
field-whole beside n h l =
    let a : beside % (widest_beside + 1) ≡ beside = omega arith in
    let b : n % (longest + 1) ≡ n = omega arith in
    rw (a, b)

pub field_put : (xs ys bs : List ℕ) (at beside n : ℕ) → beside ≤ widest_beside → n ≤ longest → at + 2 ≤ length xs
    → bs ≡ length_bytes (beside % (widest_beside + 1)) (n % (longest + 1)) → ys ≡ put_at xs at bs → Wrote xs at (length_bytes beside n) ys (at + 2)
field_put xs ys bs at beside n h l r b p =
    copied xs ys (length_bytes beside n) at 2 (p ∙ ap (put_at xs at) (b ∙ field-whole beside n h l)) (length-length_bytes beside n) r
