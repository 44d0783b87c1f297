-- What writing a locator gives, whatever numbers it holds: the syntax's bytes of the locator whose narrow fields are taken
-- by their lowest bits, with zeros behind them, and how many they are. Nothing is checked here.
-- Assumes nothing.
use Rattle.std.specs.Prelude.{ℕ, ◌+◌, ◌-◌, List, ◌++◌, length, replicate, None, Some}
use Rattle.field.specs.Fields.{start_date, locator_reserved, triplet_id, inline_reserved, early_start, late_end, low}
use Rattle.locator.specs.Syntax.{locator_bytes, longest_locator, window_length, locator_of}
use Rattle.locator.specs.declared.DvbBinaryLocator.{DvbBinaryLocator}
use Rattle.locator.specs.declared.DvbLocatorService.{DvbLocatorService}
use Rattle.locator.specs.declared.DvbLocatorService.TheVariants.{Triplet, Full}
use Rattle.locator.specs.declared.writing.LocatorBytes.{LocatorBytes}
use Rattle.locator.specs.Windows.{Windows, some_windows}

-- ---- by their lowest bits

abbrev pub narrowed_service : DvbLocatorService → DvbLocatorService
narrowed_service (Triplet t) = Triplet (low triplet_id t)
narrowed_service (Full r ts on sv) = Full (low inline_reserved r) ts on sv

abbrev pub narrowed_windows : Windows → Windows
narrowed_windows None = None
narrowed_windows (Some w) = some_windows (low early_start w.early_start_window) (low late_end w.late_end_window)

abbrev pub narrowed : DvbBinaryLocator → DvbBinaryLocator
narrowed l =
    locator_of l.scheduled_time_reliability (low locator_reserved l.reserved) (low start_date l.start_date) (narrowed_service l.service) l.start_time l.duration l.identifier
    (narrowed_windows l.windows)

-- ---- the answer

-- the most bytes that are written: windows beside an identifier, against the rule, make one more than a locator that fits has
abbrev pub longest_written : ℕ
longest_written = longest_locator + window_length

abbrev pub zeros : ℕ → List ℕ
zeros n = replicate n 0

-- bytes with zeros behind them up to the most that are written, and how many they are
abbrev pub padded : List ℕ → LocatorBytes
padded xs = record { bytes = xs ++ zeros (longest_written - length xs); length = length xs }

unfoldable pub written_locator : DvbBinaryLocator → LocatorBytes
written_locator l = padded (locator_bytes (narrowed l))
