-- Where a link stands, in the three cases: a link ends where the next one starts; at the number of links nothing lies between, at
-- the place of the loop, where the next link would go; above it there is no such link.
-- Assumes nothing.
use Prim.Native.Nat.{ℕ, ◌+◌, ◌<◌, min}
use mathlib.Core.Path.{◌≡◌, sym, ap, ◌∙◌}
use mathlib.Core.List.{List}
use native.Mathlib.Omega.{arith}
use Rattle.rct.specs.Reading.{count_at, link_place, loop_place}
use Rattle.rct_walker.specs.Places.{link_span, some_span}
use Rattle.rct_walker.proofs.Walks.{span-at, span_none}
use Rattle.std.specs.Prelude.{None}

module _ (xs : List ℕ) where
  pub span-link : (k : ℕ) → k < count_at xs → link_span xs k ≡ some_span (link_place xs k) (link_place xs (k + 1))
  span-link k h =
      let a : min k (count_at xs) ≡ k = omega arith in
      let b : min (k + 1) (count_at xs) ≡ k + 1 = omega arith in
      sym (span-at (count_at xs) k _ _ (omega arith)) ∙ ap (λ n. some_span (link_place xs n) (link_place xs (min (k + 1) (count_at xs)))) a
      ∙ ap (λ n. some_span (link_place xs k) (link_place xs n)) b

  pub span-next : link_span xs (count_at xs) ≡ some_span (loop_place xs) (loop_place xs)
  span-next =
      let a : min (count_at xs) (count_at xs) ≡ count_at xs = omega arith in
      let b : min (count_at xs + 1) (count_at xs) ≡ count_at xs = omega arith in
      sym (span-at (count_at xs) (count_at xs) _ _ (omega arith))
      ∙ ap (λ n. some_span (link_place xs n) (link_place xs (min (count_at xs + 1) (count_at xs)))) a ∙ ap (λ n. some_span (loop_place xs) (link_place xs n)) b

  pub span-above : (k : ℕ) → count_at xs < k → link_span xs k ≡ None
  span-above k h = sym (span_none (count_at xs) k _ _ h)
