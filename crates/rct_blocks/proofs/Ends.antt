-- Where a payload that is handed in ends: where the slice does, or after as many bytes as the longest payload has, whichever is first.
-- Assumes nothing.
use Prim.Native.Nat.{ℕ, ◌≤◌}
use mathlib.Core.Path.{◌≡◌}
use mathlib.Core.List.{List}
use native.Mathlib.Omega.{arith}
use lib.ListN.{length, take}
use lib.Seq.{length-take-le}
use Rattle.frame.specs.Syntax.{longest_payload}
use Rattle.rct_blocks.specs.Ends.{end_of}

module _ (xs : List ℕ) where
  pub end_whole : length xs ≤ 4094 → end_of xs ≡ length xs
  end_whole h = omega arith

  pub end-limited : 4094 ≤ length xs → end_of xs ≡ 4094
  end-limited h = omega arith

  -- a payload cut off at e ends there
  pub end-cut : (e : ℕ) → e ≤ length xs → e ≤ longest_payload → end_of (take e xs) ≡ e
  end-cut e w s = omega (arith, length-take-le e xs w)
