-- What the code's steps store.
-- Assumes nothing.
use Prim.Native.Nat.{ℕ, ◌+◌, ◌-◌, ◌%◌, ◌≤◌, ◌<◌}
use mathlib.Core.Path.{◌≡◌, sym, ap, ◌∙◌}
use mathlib.Core.List.{List}
use native.Mathlib.Omega.{arith}
use lib.ListN.{length, get_or, set, replicate, length-replicate}
use lib.Seq.{sets}
use Rattle.length_field.specs.Lengths.{longest, widest_beside, length_bytes, beside_at}
use Rattle.byte_stores.proofs.Writing.{part_put}
use borrow.Rule.Slice.PartMut.{put_mid}
use Rattle.rct.specs.Syntax.{link_count_place}
use Rattle.rct_edit.specs.Edit.{filler}
use Rattle.rct_edit.specs.Rehead.{rehead}
use Rattle.rct_stores.specs.Stores.{numbers_put, filled_up, fill_put}
use Rattle.rct_stores.proofs.Exact.{numbers-put, fills}

-- ---- filler

-- where the new end lies past the old one, nothing is filled
pub fill_none : (xs : List ℕ) (p e : ℕ) → e ≤ length xs → e ≤ p → xs ≡ fill_put xs p e
unfolding filled_up
fill_none xs p e r h = let n : e - p ≡ 0 = omega arith in ap (λ m. sets xs p (replicate m filler)) (sym n) ∙ sym (fills xs p e r)

pub fill-all : (xs ys : List ℕ) (p e : ℕ) → e ≤ length xs → p ≤ e → ys ≡ replicate (e - p) filler → put_mid p (e - p) xs ys ≡ fill_put xs p e
unfolding filled_up
fill-all xs ys p e r h s = part_put xs (replicate (e - p) filler) ys p (e - p) s (sym (length-replicate (e - p) filler)) (omega (arith, length-replicate (e - p) filler)) ∙ sym (fills xs p e r)

-- ---- the head's numbers

pub all-stored : (xs bs : List ℕ) (len count : ℕ) → link_count_place < length xs → beside_at xs 1 ≤ widest_beside → bs ≡ length_bytes (beside_at xs 1 % (widest_beside + 1)) (len % (longest + 1))
    → set (set (set xs 1 (get_or bs 0 0)) 2 (get_or bs 1 0)) link_count_place count ≡ numbers_put xs len count
unfolding rehead length_bytes
all-stored xs bs len count r h b =
    let kept : beside_at xs 1 % (widest_beside + 1) ≡ beside_at xs 1 = omega arith in
    rw (b, kept) (sym (numbers-put xs len count r))
