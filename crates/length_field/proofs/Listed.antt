-- Which numbers the rows of a block can answer.
-- Assumes nothing.
use Prim.Native.Nat.{ℕ}
use mathlib.Core.Path.{◌≡◌}
use mathlib.Core.Bool.{true}
use mathlib.Core.List.{List}
use Rattle.wire.proofs.Among.{listed, Among, among-row, among_then}
use Rattle.length_field.specs.Lengths.{block_rows, last_verdict}

module _ (ns : List ℕ) (cut long : ℕ) (c : listed cut ns ≡ true) (l : listed long ns ≡ true) where
  pub block_listed : (f g : ℕ) (xs : List ℕ) (e p : ℕ) → Among ns (block_rows cut long f g xs e p)
  unfolding block_rows
  block_listed f g xs e p = among_then ns _ _ (among-row ns _ cut _ _ c) (among-row ns _ long _ _ l)

  pub last-listed : (slack : ℕ) → listed slack ns ≡ true → (xs : List ℕ) (e p : ℕ) → Among ns (last_verdict cut long slack xs e p)
  unfolding last_verdict
  last-listed slack s xs e p = among_then ns _ _ (block_listed _ _ xs e p) (among-row ns _ slack _ _ s)
