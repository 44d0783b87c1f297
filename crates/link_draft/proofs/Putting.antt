-- The bytes of a range that are copied where there is room for them.
-- Assumes nothing.
use Prim.Native.Nat.{ℕ, ◌+◌, ◌-◌, ◌≤◌}
use mathlib.Core.Path.{◌≡◌, ap, ◌∙◌}
use mathlib.Core.List.{List}
use native.Mathlib.Omega.{arith}
use lib.ListN.{length, take, drop}
use Rattle.byte_stores.specs.Stores.{put_at, Wrote}
use Rattle.byte_stores.proofs.Writing.{copied}
use Rattle.link.specs.Records.{range_of}
use Rattle.link.specs.declared.Range.{Range}
use Rattle.link_draft.specs.Carried.{Within}
use Rattle.link_draft.proofs.Sizes.{range_length}

pub range-copied : (xs ys t : List ℕ) (at : ℕ) (r : Range) → ys ≡ put_at xs at (take (r.start + r.length - r.start) (drop r.start t)) → Within t r → at + r.length ≤ length xs
    → Wrote xs at (range_of t r) ys (at + r.length)
range-copied xs ys t at r e w h =
    let n : r.start + r.length - r.start ≡ r.length = omega arith in
    copied xs ys (range_of t r) at r.length (e ∙ ap (λ m. put_at xs at (take m (drop r.start t))) n) (range_length t r w) h
