-- Which link types have a URI and which a locator (ETSI TS 102 323, Table 111), as a table: 0 to 3 by name, the reserved ones and all numbers above neither.
-- Assumes nothing.
use Prim.Native.Nat.{ℕ, ◌≤◌}
use mathlib.Core.Path.{◌≡◌, refl}
use mathlib.Core.Bool.{Bool, true, false}
use native.Mathlib.Omega.{arith}
use borrow.Author.Tests.{ne_eqb}
use Rattle.link.specs.Syntax.{uri_due, locator_due}

pub record Due (t : ℕ) (u l : Bool) : Type 0 where
  pub uri : uri_due t ≡ u
  pub locator : locator_due t ≡ l

pub record DueTable : Type 0 where
  pub uri : Due 0 true false
  pub locator : Due 1 false true
  pub both : Due 2 true true
  pub descriptor : Due 3 false false
  pub others : (t : ℕ) → 4 ≤ t → Due t false false

pub due-table : DueTable
due-table =
    record {
      uri = record { uri = refl; locator = refl };
      locator = record { uri = refl; locator = refl };
      both = record { uri = refl; locator = refl };
      descriptor = record { uri = refl; locator = refl };
      others =
          λ t h. record {
            uri = simp (ne_eqb t 0 (λ e. omega arith), ne_eqb t 2 (λ e. omega arith));
            locator = simp (ne_eqb t 1 (λ e. omega arith), ne_eqb t 2 (λ e. omega arith));
          };
    }
