-- A walk over items, turn by turn: what the rows say of those that are left.
-- Assumes nothing.
use mathlib.Core.Path.{◌≡◌, ap, ◌∙◌}
use Prim.Native.Nat.{ℕ, zero, suc, ◌-◌, ◌≤◌, ◌<◌}
use native.Mathlib.Omega.{arith}
use mathlib.Core.List.{List}
use lib.ListN.{length}
use Rattle.wire.specs.Verdict.{◌▷◌, Fine}
use Rattle.wire.specs.declared.verdict.Refusal.{Refusal}
use Rattle.wire.proofs.Verdicts.{then-fine, go_on, refused-then}
use Rattle.link.specs.Reading.{item_end, item_place, item_verdict, items_verdict}
use Rattle.link.proofs.Items.{item-passed}
use Rattle.std.specs.Prelude.{Err}

-- k are left, the first of them at p

module _ (k : ℕ) (xs : List ℕ) (p : ℕ) (h : 0 < k) where
  least : k ≡ suc (k - 1)
  least = omega arith

  same : k - 1 ≡ suc (k - 1) - 1
  same = omega arith

  pub items-stop : (r : Refusal) → item_verdict xs p ≡ Err r → items_verdict k xs p ≡ Err r
  unfolding items_verdict
  items-stop r v = rw least (refused-then (item_verdict xs p) _ r v)

  pub items-on : item_verdict xs p ≡ Fine → items_verdict k xs p ≡ items_verdict (k - 1) xs (item_end xs p)
  unfolding items_verdict
  items-on v = rw least (go_on (item_verdict xs p) _ v ∙ ap (λ n. items_verdict n xs (item_end xs p)) same)

  pub place-on : item_place k xs p ≡ item_place (k - 1) xs (item_end xs p)
  place-on = rw least (ap (λ n. item_place n xs (item_end xs p)) same)

pub items-none : (k : ℕ) (xs : List ℕ) (p : ℕ) → k ≤ 0 → (items_verdict k xs p ≡ Fine) × (item_place k xs p ≡ p)
unfolding items_verdict
items-none k xs p h = let e : k ≡ 0 = omega arith in (rw e, rw e)

-- a turn over items that were checked
pub items-turn : (k : ℕ) (xs : List ℕ) (p : ℕ) → 0 < k → items_verdict k xs p ≡ Fine → (item_end xs p ≤ length xs) × (items_verdict (k - 1) xs (item_end xs p) ≡ Fine)
unfolding items_verdict
items-turn zero xs p h v = absurd (omega arith)
items-turn (suc k) xs p h v =
    let two = then-fine (item_verdict xs p) _ v in
    let e : suc k - 1 ≡ k = omega arith in
    (item-passed xs p two.0, rw e two.1)
