-- What is checked of a locator before it is written: 22 of each narrow field, lowest rank first, and 24 of the windows. A
-- link has checks of its own between the two.
-- Assumes nothing.
use Rattle.std.specs.Bool.{xor}
use Rattle.field.specs.Fields.{start_date, locator_reserved, triplet_id, inline_reserved, early_start, late_end, check_field}
use Rattle.wire.specs.Refusals.{against_rule}
use Rattle.wire.specs.Verdict.{refuse, ◌▷◌, Fine, Verdict}
use Rattle.locator.specs.Syntax.{are_here, are_due}
use Rattle.locator.specs.declared.DvbBinaryLocator.{DvbBinaryLocator}
use Rattle.locator.specs.declared.DvbLocatorService.{DvbLocatorService}
use Rattle.locator.specs.declared.DvbLocatorService.TheVariants.{Triplet, Full}
use Rattle.locator.specs.Windows.{Windows}
use Rattle.std.specs.Prelude.{None, Some}

-- fields that are absent are not checked
abbrev pub check_service : DvbLocatorService → Verdict
check_service (Triplet t) = check_field triplet_id t
check_service (Full r ts on sv) = check_field inline_reserved r

abbrev pub check_widths : Windows → Verdict
check_widths None = Fine
check_widths (Some w) = check_field early_start w.early_start_window ▷ check_field late_end w.late_end_window

unfoldable pub check_fields : DvbBinaryLocator → Verdict
check_fields l = check_field start_date l.start_date ▷ check_field locator_reserved l.reserved ▷ check_service l.service ▷ check_widths l.windows

-- windows present against the rule, or missing
unfoldable pub check_windows : DvbBinaryLocator → Verdict
check_windows l = refuse (xor (are_here l.windows) (are_due l.identifier l.scheduled_time_reliability)) against_rule 0 0
