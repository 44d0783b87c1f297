-- The list has each field at its own rank: there is a field for each of 1 to 24, and the field of rank p has the rank p.
-- Assumes nothing.
use Prim.Native.Nat.{ℕ, zero, suc, ◌+◌, ◌-◌, ◌≤◌, ◌<◌}
use mathlib.Core.Path.{◌≡◌, refl, sym, ap, ◌∙◌}
use mathlib.Core.List.{List, [], ◌∷◌, map}
use native.Mathlib.Omega.{arith}
use lib.ListN.{length, get_or, get_or-map}
use borrow.Author.Tests.{ne_eqb, lt-leb}
use Rattle.field.specs.Fields.{fields, ranked}
use Rattle.field.specs.declared.Field.{Field}
use Rattle.std.specs.Prelude.{Some}

-- k numbers from n on
abbrev rising : ℕ → ℕ → List ℕ
rising n zero = []
rising n (suc k) = n ∷ rising (suc n) k

rising-at : (n k i : ℕ) → i < k → get_or (rising n k) i 0 ≡ n + i
rising-at n zero i h = absurd (omega arith)
rising-at n (suc k) zero h = omega arith
rising-at n (suc k) (suc i) h = rising-at (suc n) k i (omega arith) ∙ omega arith

abbrev rank_of : Field → ℕ
rank_of f = f.rank

-- the whole list at once
in_order_lem : map rank_of fields ≡ rising 1 24
in_order_lem = refl

pub record RankListed (p : ℕ) : Type 0 where
  pub field : Field
  pub listed : ranked p ≡ Some field
  pub rank : field.rank ≡ p

pub rank-listed : (p : ℕ) → 0 < p → p ≤ 24 → RankListed p
rank-listed p h l =
    record {
      field = get_or fields (p - 1) none;
      listed = simp (ne_eqb p 0 (λ e. omega arith), lt-leb (length fields) (p - 1) (omega arith));
      rank = sym (get_or-map rank_of fields (p - 1) none) ∙ ap (λ l. get_or l (p - 1) 0) in_order_lem ∙ rising-at 1 24 (p - 1) (omega arith) ∙ omega arith;
    }
  where
    none : Field
    none = record { rank = 0; widest = 0 }
