-- A locator as numbers, and the locator that numbers stand for. What a kind does not have is 0.
-- Assumes nothing.
use Rattle.std.specs.Prelude.{ℕ, eqb, None, Some}
use Rattle.wire.specs.Choice.{pick, bit}
use Rattle.locator.specs.declared.DvbBinaryLocator.{DvbBinaryLocator}
use Rattle.locator.specs.declared.DvbLocatorService.{DvbLocatorService}
use Rattle.locator.specs.declared.DvbLocatorService.TheVariants.{Triplet, Full}
use Rattle.locator.specs.declared.DvbLocatorIdentifier.{DvbLocatorIdentifier}
use Rattle.locator.specs.declared.DvbLocatorIdentifier.TheVariants.{None as NoIdentifier, EventId, TvaIdEit, TvaIdPes}
use Rattle.flat_locator.specs.Flags.{is_set}
use Rattle.flat_locator.specs.declared.FlatService.{FlatService}
use Rattle.flat_locator.specs.declared.FlatIdentifier.{FlatIdentifier}
use Rattle.flat_locator.specs.declared.FlatWindows.{FlatWindows}
use Rattle.flat_locator.specs.declared.FlatLocator.{FlatLocator}
use Rattle.locator.specs.Windows.{Windows, some_windows}

-- ---- the numbers

abbrev pub service_numbers : ℕ → ℕ → ℕ → ℕ → ℕ → ℕ → FlatService
service_numbers i t r ts on sv =
    record {
      inline_service = i;
      dvb_service_triplet_id = t;
      reserved_inline_service = r;
      transport_stream_id = ts;
      original_network_id = on;
      service_id = sv;
    }

abbrev pub service_flat : DvbLocatorService → FlatService
service_flat (Triplet t) = service_numbers 0 t 0 0 0 0
service_flat (Full r ts on sv) = service_numbers 1 0 r ts on sv

abbrev pub identifier_numbers : ℕ → ℕ → ℕ → FlatIdentifier
identifier_numbers k i c = record { identifier_type = k; component = c; id = i }

abbrev pub identifier_flat : DvbLocatorIdentifier → FlatIdentifier
identifier_flat NoIdentifier = identifier_numbers 0 0 0
identifier_flat (EventId e) = identifier_numbers 1 e 0
identifier_flat (TvaIdEit t) = identifier_numbers 2 t 0
identifier_flat (TvaIdPes t c) = identifier_numbers 3 t c

abbrev pub windows_numbers : ℕ → ℕ → ℕ → FlatWindows
windows_numbers p e a = record { present = p; early_start_window = e; late_end_window = a }

abbrev pub windows_flat : Windows → FlatWindows
windows_flat None = windows_numbers 0 0 0
windows_flat (Some w) = windows_numbers 1 w.early_start_window w.late_end_window

unfoldable pub locator_flat : DvbBinaryLocator → FlatLocator
locator_flat l =
    record {
      scheduled_time_reliability = bit l.scheduled_time_reliability;
      reserved = l.reserved;
      start_date = l.start_date;
      service = service_flat l.service;
      start_time = l.start_time;
      duration = l.duration;
      identifier = identifier_flat l.identifier;
      windows = windows_flat l.windows;
    }

-- ---- what numbers stand for

abbrev pub service_of : FlatService → DvbLocatorService
service_of f =
    pick (is_set f.inline_service)
    (Full f.reserved_inline_service f.transport_stream_id f.original_network_id f.service_id)
    (Triplet f.dvb_service_triplet_id)

abbrev pub identifier_of : FlatIdentifier → DvbLocatorIdentifier
identifier_of f =
    pick (eqb f.identifier_type 0) NoIdentifier
    (pick (eqb f.identifier_type 1) (EventId f.id)
    (pick (eqb f.identifier_type 2) (TvaIdEit f.id)
    (TvaIdPes f.id f.component)))

abbrev pub windows_of : FlatWindows → Windows
windows_of f = pick (is_set f.present) (some_windows f.early_start_window f.late_end_window) None

unfoldable pub locator_of : FlatLocator → DvbBinaryLocator
locator_of f =
    record {
      scheduled_time_reliability = is_set f.scheduled_time_reliability;
      reserved = f.reserved;
      start_date = f.start_date;
      service = service_of f.service;
      start_time = f.start_time;
      duration = f.duration;
      identifier = identifier_of f.identifier;
      windows = windows_of f.windows;
    }
