-- What the constructors make. Each argument stands in its own field of the syntax's bytes, at the place that Table 31 gives
-- it; the reserved bits of `new` and `full` are ones; and what these make fits if it does with other reserved bits.
-- Assumes nothing.
use Prim.Native.Nat.{ℕ, ◌+◌, ◌/◌, ◌%◌, ◌≤◌}
use mathlib.Core.Path.{◌≡◌, refl}
use mathlib.Core.Bool.{Bool}
use mathlib.Core.List.{◌++◌}
use native.Mathlib.Omega.{arith}
use lib.ListN.{drop}
use Rattle.field.specs.Fields.{start_date}
use Rattle.wire.specs.Choice.{bit}
use Rattle.wire.specs.Numbers.{bytes16, be16}
use Rattle.wire.proofs.Words.{word16-back}
use Rattle.locator.specs.Syntax.{type_of, is_inline, last_bits, head_of, service_bytes, identifier_bytes, windows_bytes, locator_bytes, ServiceFits, WindowsFit, Narrow, ServiceCarried, Fits, inline_service, full_service, locator_of, new_locator}
use Rattle.locator.specs.declared.DvbBinaryLocator.{DvbBinaryLocator}
use Rattle.locator.specs.declared.DvbLocatorService.{DvbLocatorService}
use Rattle.locator.specs.declared.DvbLocatorService.TheVariants.{Triplet}
use Rattle.locator.specs.declared.DvbLocatorIdentifier.{DvbLocatorIdentifier}
use Rattle.locator.proofs.Back.{type-back, reliable-bit, inline-bit, reserved-back, date-back, last-back}
use Rattle.locator.specs.Windows.{Windows}

-- ---- the fields of the first 16 bits, and what stands behind them

pub record Stands (l : DvbBinaryLocator) (r : Bool) (s d : ℕ) (v : DvbLocatorService) (t u : ℕ) (i : DvbLocatorIdentifier) (w : Windows) : Type 0 where
  pub type : be16 (locator_bytes l) 0 / 0x4000 ≡ type_of i
  pub reliability : be16 (locator_bytes l) 0 / 0x2000 % 2 ≡ bit r
  pub inline : be16 (locator_bytes l) 0 / 0x1000 % 2 ≡ bit (is_inline v)
  pub reserved : be16 (locator_bytes l) 0 / 0x800 % 2 ≡ s
  pub date : be16 (locator_bytes l) 0 / 4 % 512 ≡ d
  pub last : be16 (locator_bytes l) 0 % 4 ≡ last_bits v
  pub behind : drop 2 (locator_bytes l) ≡ service_bytes v ++ bytes16 t ++ bytes16 u ++ identifier_bytes i ++ windows_bytes w

head_at_lem : (l : DvbBinaryLocator) → be16 (locator_bytes l) 0 ≡ head_of l
unfolding locator_bytes
head_at_lem l = word16-back (head_of l)

module _ (r : Bool) (s d : ℕ) (v : DvbLocatorService) (t u : ℕ) (i : DvbLocatorIdentifier) (w : Windows) where
  pub made-stands : Narrow (locator_of r s d v t u i w) → Stands (locator_of r s d v t u i w) r s d v t u i w
  unfolding locator_bytes
  made-stands f =
      let l = locator_of r s d v t u i w in
      record {
        type = rw (head_at_lem l) (type-back l f);
        reliability = rw (head_at_lem l) (reliable-bit l f);
        inline = rw (head_at_lem l) (inline-bit l f);
        reserved = rw (head_at_lem l) (reserved-back l f);
        date = rw (head_at_lem l) (date-back l f);
        last = rw (head_at_lem l) (last-back l f);
        behind = refl;
      }

-- ---- `new`: narrow and fitting if the same is with any reserved bit

module _ (r : Bool) (s d : ℕ) (v : DvbLocatorService) (t u : ℕ) (i : DvbLocatorIdentifier) (w : Windows) where
  new-narrow : Narrow (locator_of r s d v t u i w) → Narrow (new_locator r d v t u i w)
  new-narrow f = record { date = f.date; reserved = omega arith; service = f.service; windows = f.windows }

  pub new-fits : Fits (locator_of r s d v t u i w) → Fits (new_locator r d v t u i w)
  new-fits f =
      let c = f.carried in
      record { narrow = new-narrow f.narrow; rule = f.rule; carried = record { start = c.start; duration = c.duration; service = c.service; identifier = c.identifier } }

  pub new-stands : Narrow (locator_of r s d v t u i w) → Stands (new_locator r d v t u i w) r 1 d v t u i w
  new-stands f = made-stands r 1 d v t u i w (new-narrow f)

-- ---- `full`: fitting if the same does with any bits beside it

pub full-fits : (b ts on sv : ℕ) → ServiceFits (inline_service b ts on sv) → ServiceFits (full_service ts on sv)
full-fits b ts on sv f = omega arith

pub full-carried : (b ts on sv : ℕ) → ServiceCarried (inline_service b ts on sv) → ServiceCarried (full_service ts on sv)
full-carried b ts on sv c = c

-- ---- the times and the ids, by their places

pub record TimesAt (l : DvbBinaryLocator) (at t u : ℕ) : Type 0 where
  pub start : be16 (locator_bytes l) at ≡ t
  pub duration : be16 (locator_bytes l) (at + 2) ≡ u

pub record Ids (l : DvbBinaryLocator) (ts on sv : ℕ) : Type 0 where
  pub stream : be16 (locator_bytes l) 2 ≡ ts
  pub network : be16 (locator_bytes l) 4 ≡ on
  pub service : be16 (locator_bytes l) 6 ≡ sv

module _ (r : Bool) (d t u : ℕ) (i : DvbLocatorIdentifier) (w : Windows) where
  -- a triplet id ends at 3, an inline service at 8
  pub triplet-times : (k : ℕ) → TimesAt (new_locator r d (Triplet k) t u i w) 3 t u
  unfolding locator_bytes
  triplet-times k = record { start = word16-back t; duration = word16-back u }

  pub inline-times : (b ts on sv : ℕ) → TimesAt (new_locator r d (inline_service b ts on sv) t u i w) 8 t u
  unfolding locator_bytes
  inline-times b ts on sv = record { start = word16-back t; duration = word16-back u }

  pub inline-ids : (b ts on sv : ℕ) → Ids (new_locator r d (inline_service b ts on sv) t u i w) ts on sv
  unfolding locator_bytes
  inline-ids b ts on sv = record { stream = word16-back ts; network = word16-back on; service = word16-back sv }

  pub full-ids : (ts on sv : ℕ) → Ids (new_locator r d (full_service ts on sv) t u i w) ts on sv
  full-ids ts on sv = inline-ids 3 ts on sv

  -- the two bits beside the ids are ones
  pub full-ones : (ts on sv : ℕ) → d ≤ start_date.widest → WindowsFit w → be16 (locator_bytes (new_locator r d (full_service ts on sv) t u i w)) 0 % 4 ≡ 3
  full-ones ts on sv date windows = (new-stands r 0 d (full_service ts on sv) t u i w (record { date = date; reserved = omega arith; service = omega arith; windows = windows })).last
