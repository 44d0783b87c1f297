-- How much earlier and later than its time an event may be, where that is told at all.
-- Assumes nothing.
use Rattle.std.specs.Prelude.{ℕ, Option, Some}
use Rattle.locator.specs.declared.DvbLocatorWindows.{DvbLocatorWindows}

abbrev pub Windows : Type 0
Windows = Option DvbLocatorWindows

abbrev pub some_windows : ℕ → ℕ → Windows
some_windows e a = Some (record { early_start_window = e; late_end_window = a })
