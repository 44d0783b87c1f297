-- Which numbers a locator's calls can answer at all: its reading 10, its checks 22 and 24.
-- Assumes nothing.
use Prim.Native.Nat.{ℕ}
use mathlib.Core.Path.{◌≡◌, refl}
use mathlib.Core.Bool.{true}
use mathlib.Core.List.{List, [], ◌∷◌}
use native.Mathlib.Omega.{arith}
use Rattle.wire.specs.Refusals.{locator_cut, too_wide, against_rule}
use Rattle.wire.specs.declared.verdict.Refusal.{Refusal}
use Rattle.wire.proofs.Among.{listed, Among, among-fine, among-row, among_then}
use Rattle.field.proofs.Checks.{field-listed}
use Rattle.locator.specs.Reading.{locator_at, size_at, needs, locator_verdict, sized, locator_size, answer, read_locator}
use Rattle.locator.specs.Checks.{check_service, check_widths, check_fields, check_windows}
use Rattle.locator.specs.declared.DvbBinaryLocator.{DvbBinaryLocator}
use Rattle.locator.specs.declared.DvbLocatorService.{DvbLocatorService}
use Rattle.locator.specs.declared.DvbLocatorService.TheVariants.{Triplet, Full}
use Rattle.locator.specs.Windows.{Windows}
use Rattle.std.specs.Prelude.{Err, None, Ok, Some}
use Rattle.wire.specs.Verdict.{Verdict}

-- ---- reading

abbrev pub locator_reading : List ℕ
locator_reading = locator_cut ∷ []

pub verdict-listed : (xs : List ℕ) → Among locator_reading (locator_verdict xs)
unfolding locator_verdict
verdict-listed xs =
    among_then locator_reading _ _ (row _) (among_then locator_reading _ _ (row _) (among_then locator_reading _ _ (row _) (row _)))
  where
    row : (n : ℕ) → Among locator_reading (needs xs n)
    row n = among-row locator_reading _ locator_cut n _ refl

-- the answer, and that to the size alone
pub read-listed : (xs : List ℕ) (r : Refusal) → read_locator xs ≡ Err r → listed r.number locator_reading ≡ true
unfolding read_locator
read-listed xs r e = by (locator_verdict xs) (verdict-listed xs) e
  where
    by : (v : Verdict) → Among locator_reading v → answer v (locator_at xs) (size_at xs) ≡ Err r → listed r.number locator_reading ≡ true
    by (Ok _) p q = let z : ◌≡◌ {A = ℕ} 0 1 = cc in absurd (omega arith)
    by (Err s) p q = p r (cc)

pub size-listed : (xs : List ℕ) (r : Refusal) → locator_size xs ≡ Err r → listed r.number locator_reading ≡ true
unfolding locator_size
size-listed xs r e = by (locator_verdict xs) (verdict-listed xs) e
  where
    by : (v : Verdict) → Among locator_reading v → sized v (size_at xs) ≡ Err r → listed r.number locator_reading ≡ true
    by (Ok _) p q = let z : ◌≡◌ {A = ℕ} 0 1 = cc in absurd (omega arith)
    by (Err s) p q = p r (cc)

-- ---- the checks before it is written

pub fields-listed : (l : DvbBinaryLocator) → Among (too_wide ∷ []) (check_fields l)
unfolding check_fields
fields-listed l =
    among_then (too_wide ∷ []) _ _ (field-listed _ _)
    (among_then (too_wide ∷ []) _ _ (field-listed _ _) (among_then (too_wide ∷ []) _ _ (service l.service) (widths l.windows)))
  where
    service : (s : DvbLocatorService) → Among (too_wide ∷ []) (check_service s)
    service (Triplet t) = field-listed _ t
    service (Full r ts on sv) = field-listed _ r

    widths : (w : Windows) → Among (too_wide ∷ []) (check_widths w)
    widths None = among-fine (too_wide ∷ [])
    widths (Some w) = among_then (too_wide ∷ []) _ _ (field-listed _ w.early_start_window) (field-listed _ w.late_end_window)

pub windows-listed : (l : DvbBinaryLocator) → Among (against_rule ∷ []) (check_windows l)
unfolding check_windows
windows-listed l = among-row (against_rule ∷ []) _ against_rule 0 0 refl
