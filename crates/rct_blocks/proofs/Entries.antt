-- An entry that is passed by its length, and the walk from one entry to the next, over plain lists.
-- Assumes nothing.
use mathlib.Core.Path.{◌≡◌, refl, sym, ap, ◌∙◌}
use Prim.Native.Nat.{ℕ, zero, suc, ◌+◌, ◌-◌, ◌≤◌, ◌<◌}
use native.Mathlib.Numerals.{add-one}
use native.Mathlib.Omega.{arith}
use mathlib.Core.List.{List}
use Rattle.length_field.specs.Lengths.{block_end}
use Rattle.wire.specs.Verdict.{reached, ◌▷◌, Fine}
use Rattle.wire.specs.declared.verdict.Refusal.{Refusal}
use Rattle.length_field.proofs.Blocks.{block-passed}
use Rattle.wire.proofs.Verdicts.{go_on, refused-then, reached-at}
use Rattle.link.specs.Reading.{body_verdict}
use Rattle.rct.specs.Reading.{body_in, after, entry_rows, entry_verdict, links_verdict}
use Rattle.std.specs.Prelude.{Err, Ok}

-- ---- one entry

module _ (xs : List ℕ) (e p : ℕ) where
  -- what a length field that is passed leaves known of the place t behind its entry
  pub record Passed (t : ℕ) : Type 0 where
    pub fine : entry_rows xs e p ≡ Fine
    pub place : block_end xs p ≡ t
    pub behind : p + 2 ≤ t
    pub within : t ≤ e

  pub length-passed : (t : ℕ) → reached (entry_rows xs e p) (block_end xs p) ≡ Ok t → Passed t
  length-passed t q =
      let g = reached-at _ _ _ q in
      let w : block_end xs p ≤ e = block-passed _ _ _ _ xs e p g.0 in
      let z : block_end xs p ≡ t = g.1 in
      record { fine = g.0; place = z; behind = omega arith; within = omega arith }

  pub entry-stop : (r : Refusal) → entry_rows xs e p ≡ Err r → entry_verdict xs e p ≡ Err r
  unfolding entry_verdict
  entry-stop r v = refused-then _ _ r v

  pub entry-body : entry_rows xs e p ≡ Fine → body_verdict (body_in xs p) ≡ entry_verdict xs e p
  unfolding entry_verdict
  entry-body v = sym (go_on _ _ v)

-- ---- the walk over n links from p on: i of them are behind it

after-suc : (i : ℕ) (xs : List ℕ) (p : ℕ) → after (suc i) xs p ≡ block_end xs (after i xs p)
after-suc zero xs p = refl
after-suc (suc i) xs p = after-suc i xs (block_end xs p)

pub after_next : (i : ℕ) (xs : List ℕ) (p : ℕ) → after (i + 1) xs p ≡ block_end xs (after i xs p)
after_next i xs p = rw add-one (after-suc i xs p)

module _ (xs : List ℕ) (e n i p : ℕ) (h : i < n) where
  turn : links_verdict (n - i) xs e p ≡ entry_verdict xs e p ▷ links_verdict (n - (i + 1)) xs e (block_end xs p)
  turn = let one : n - i ≡ suc (n - (i + 1)) = omega arith in ap (λ m. links_verdict m xs e p) one

  pub turn_on : entry_verdict xs e p ≡ Fine → links_verdict (n - i) xs e p ≡ links_verdict (n - (i + 1)) xs e (block_end xs p)
  turn_on v = turn ∙ go_on _ _ v

  pub turn-stop : (r : Refusal) → entry_verdict xs e p ≡ Err r → links_verdict (n - i) xs e p ≡ Err r
  turn-stop r v = turn ∙ refused-then _ _ r v
