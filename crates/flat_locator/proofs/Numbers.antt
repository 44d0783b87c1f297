-- What any number says that is handed in.
-- Assumes nothing.
use Prim.Native.Nat.{ℕ, ◌<◌}
use mathlib.Core.Path.{◌≡◌, refl}
use mathlib.Core.Bool.{true, false}
use native.Mathlib.Omega.{arith}
use borrow.Author.Tests.{lt-ltb, ne_eqb}
use Rattle.locator.specs.declared.DvbLocatorIdentifier.TheVariants.{None as NoIdentifier, EventId, TvaIdEit, TvaIdPes}
use Rattle.flat_locator.specs.Flags.{is_set}
use Rattle.flat_locator.specs.Locators.{identifier_of}

-- ---- a flag and a presence: 0 is no, every other number is yes

pub zero-is-no : is_set 0 ≡ false
zero-is-no = refl

pub others-are-yes : (n : ℕ) → 0 < n → is_set n ≡ true
others-are-yes n h = lt-ltb 0 n h

-- ---- an identifier's type: 0, 1, 2, and every number above

module _ (i c : ℕ) where
  pub type-0 : identifier_of (record { identifier_type = 0; component = c; id = i }) ≡ NoIdentifier
  type-0 = refl

  pub type-1 : identifier_of (record { identifier_type = 1; component = c; id = i }) ≡ EventId i
  type-1 = refl

  pub type-2 : identifier_of (record { identifier_type = 2; component = c; id = i }) ≡ TvaIdEit i
  type-2 = refl

  pub type-above : (n : ℕ) → 2 < n → identifier_of (record { identifier_type = n; component = c; id = i }) ≡ TvaIdPes i c
  type-above n h = rw (ne_eqb n 0 (λ e. omega arith), ne_eqb n 1 (λ e. omega arith), ne_eqb n 2 (λ e. omega arith)) refl
