-- The checks are passed exactly by the locators that fit.
-- Assumes nothing.
use mathlib.Core.Path.{◌≡◌, refl}
use Rattle.field.specs.Fields.{start_date, locator_reserved, triplet_id, inline_reserved, early_start, late_end, check_field}
use Rattle.wire.specs.Refusals.{against_rule}
use Rattle.wire.proofs.Verdicts.{then-fine, fine-then, agree-passed, agree-pass}
use Rattle.field.proofs.Checks.{field-passed, field-pass}
use Rattle.locator.specs.Syntax.{ServiceFits, WindowsFit, Narrow, are_here, are_due, Ruled, Carried, Fits}
use Rattle.locator.specs.Checks.{check_service, check_widths, check_fields, check_windows}
use Rattle.locator.specs.declared.DvbBinaryLocator.{DvbBinaryLocator}
use Rattle.locator.specs.declared.DvbLocatorService.{DvbLocatorService}
use Rattle.locator.specs.declared.DvbLocatorService.TheVariants.{Triplet, Full}
use Rattle.locator.specs.Windows.{Windows}
use Rattle.std.specs.Prelude.{None, Some}
use Rattle.wire.specs.Verdict.{Fine}

-- ---- 22

service-within : (v : DvbLocatorService) → check_service v ≡ Fine → ServiceFits v
service-within (Triplet t) e = field-passed triplet_id t e
service-within (Full r ts on sv) e = field-passed inline_reserved r e

service-passes : (v : DvbLocatorService) → ServiceFits v → check_service v ≡ Fine
service-passes (Triplet t) f = field-pass triplet_id t f
service-passes (Full r ts on sv) f = field-pass inline_reserved r f

windows-within : (w : Windows) → check_widths w ≡ Fine → WindowsFit w
windows-within None e = tt
windows-within (Some w) e = let p = then-fine _ _ e in (field-passed early_start w.early_start_window p.0, field-passed late_end w.late_end_window p.1)

windows-pass : (w : Windows) → WindowsFit w → check_widths w ≡ Fine
windows-pass None f = refl
windows-pass (Some w) f = fine-then _ _ (field-pass early_start w.early_start_window f.0) (field-pass late_end w.late_end_window f.1)

pub fields-narrow : (l : DvbBinaryLocator) → check_fields l ≡ Fine → Narrow l
unfolding check_fields
fields-narrow l e =
    let p = then-fine _ _ e in
    let q = then-fine _ _ p.1 in
    let r = then-fine _ _ q.1 in
    record {
      date = field-passed start_date l.start_date p.0;
      reserved = field-passed locator_reserved l.reserved q.0;
      service = service-within l.service r.0;
      windows = windows-within l.windows r.1;
    }

pub narrow-fields : (l : DvbBinaryLocator) → Narrow l → check_fields l ≡ Fine
unfolding check_fields
narrow-fields l f =
    fine-then _ _ (field-pass start_date l.start_date f.date)
    (fine-then _ _ (field-pass locator_reserved l.reserved f.reserved) (fine-then _ _ (service-passes l.service f.service) (windows-pass l.windows f.windows)))

-- ---- 24

pub windows-ruled : (l : DvbBinaryLocator) → check_windows l ≡ Fine → Ruled l
unfolding check_windows
windows-ruled l e = agree-passed (are_here l.windows) (are_due l.identifier l.scheduled_time_reliability) against_rule 0 0 e

pub ruled-windows : (l : DvbBinaryLocator) → Ruled l → check_windows l ≡ Fine
unfolding check_windows
ruled-windows l r = agree-pass (are_here l.windows) (are_due l.identifier l.scheduled_time_reliability) against_rule 0 0 r

-- ---- both

pub checked-fits : (l : DvbBinaryLocator) → Carried l → check_fields l ≡ Fine → check_windows l ≡ Fine → Fits l
checked-fits l c e f = record { narrow = fields-narrow l e; rule = windows-ruled l f; carried = c }

pub fits-checked : (l : DvbBinaryLocator) → Fits l → (check_fields l ≡ Fine) × (check_windows l ≡ Fine)
fits-checked l f = (narrow-fields l f.narrow, ruled-windows l f.rule)
