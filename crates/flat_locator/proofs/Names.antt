-- Each number of a flat record stands under its own name: what round trips leave open, that two numbers change places both ways, is ruled out.
-- Assumes nothing.
use Prim.Native.Nat.{ℕ}
use mathlib.Core.Path.{◌≡◌, refl}
use Rattle.wire.specs.Choice.{bit}
use Rattle.locator.specs.declared.DvbBinaryLocator.{DvbBinaryLocator}
use Rattle.locator.specs.declared.DvbLocatorService.TheVariants.{Triplet, Full}
use Rattle.locator.specs.declared.DvbLocatorIdentifier.TheVariants.{None as NoIdentifier, EventId, TvaIdEit, TvaIdPes}
use Rattle.flat_locator.specs.Locators.{service_flat, identifier_flat, windows_flat, locator_flat}
use Rattle.flat_locator.specs.declared.FlatService.{FlatService}
use Rattle.flat_locator.specs.declared.FlatIdentifier.{FlatIdentifier}
use Rattle.flat_locator.specs.declared.FlatWindows.{FlatWindows}
use Rattle.flat_locator.specs.declared.FlatLocator.{FlatLocator}
use Rattle.locator.specs.Windows.{some_windows}
use Rattle.std.specs.Prelude.{None}

pub record ServiceNames (i t r ts on sv : ℕ) (f : FlatService) : Type 0 where
  pub inline : f.inline_service ≡ i
  pub triplet : f.dvb_service_triplet_id ≡ t
  pub reserved : f.reserved_inline_service ≡ r
  pub stream : f.transport_stream_id ≡ ts
  pub network : f.original_network_id ≡ on
  pub service : f.service_id ≡ sv

pub triplet-names : (t : ℕ) → ServiceNames 0 t 0 0 0 0 (service_flat (Triplet t))
triplet-names t = record { inline = refl; triplet = refl; reserved = refl; stream = refl; network = refl; service = refl }

pub full-names : (r ts on sv : ℕ) → ServiceNames 1 0 r ts on sv (service_flat (Full r ts on sv))
full-names r ts on sv = record { inline = refl; triplet = refl; reserved = refl; stream = refl; network = refl; service = refl }

pub record IdentifierNames (k n c : ℕ) (f : FlatIdentifier) : Type 0 where
  pub kind : f.identifier_type ≡ k
  pub id : f.id ≡ n
  pub component : f.component ≡ c

pub none-names : IdentifierNames 0 0 0 (identifier_flat NoIdentifier)
none-names = record { kind = refl; id = refl; component = refl }

pub event-names : (e : ℕ) → IdentifierNames 1 e 0 (identifier_flat (EventId e))
event-names e = record { kind = refl; id = refl; component = refl }

pub eit-names : (t : ℕ) → IdentifierNames 2 t 0 (identifier_flat (TvaIdEit t))
eit-names t = record { kind = refl; id = refl; component = refl }

pub pes-names : (t c : ℕ) → IdentifierNames 3 t c (identifier_flat (TvaIdPes t c))
pes-names t c = record { kind = refl; id = refl; component = refl }

pub record WindowsNames (p e a : ℕ) (f : FlatWindows) : Type 0 where
  pub here : f.present ≡ p
  pub early : f.early_start_window ≡ e
  pub late : f.late_end_window ≡ a

pub absent-names : WindowsNames 0 0 0 (windows_flat None)
absent-names = record { here = refl; early = refl; late = refl }

pub present-names : (e a : ℕ) → WindowsNames 1 e a (windows_flat (some_windows e a))
present-names e a = record { here = refl; early = refl; late = refl }

pub record LocatorNames (l : DvbBinaryLocator) (f : FlatLocator) : Type 0 where
  pub reliability : f.scheduled_time_reliability ≡ bit l.scheduled_time_reliability
  pub reserved : f.reserved ≡ l.reserved
  pub date : f.start_date ≡ l.start_date
  pub service : f.service ≡ service_flat l.service
  pub time : f.start_time ≡ l.start_time
  pub duration : f.duration ≡ l.duration
  pub identifier : f.identifier ≡ identifier_flat l.identifier
  pub windows : f.windows ≡ windows_flat l.windows

pub locator-names : (l : DvbBinaryLocator) → LocatorNames l (locator_flat l)
unfolding locator_flat
locator-names l =
    record {
      reliability = refl;
      reserved = refl;
      date = refl;
      service = refl;
      time = refl;
      duration = refl;
      identifier = refl;
      windows = refl;
    }
