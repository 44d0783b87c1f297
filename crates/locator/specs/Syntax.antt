-- The syntax of a DVB binary locator (ETSI TS 102 323, 7.3.2.3.3, Table 31): the bytes that stand for one, how many they
-- are, and which locators have bytes. Nothing here reads.
-- Assumes nothing.
use Rattle.std.specs.Prelude.{ℕ, ◌+◌, ◌*◌, ◌/◌, ◌%◌, ◌≤◌, ◌<◌, ◌≡◌, Bool, true, false, List, [], ◌∷◌, ◌++◌, None, Some}
use Rattle.wire.specs.Choice.{bit}
use Rattle.wire.specs.Numbers.{bytes16}
use Rattle.field.specs.Fields.{start_date, locator_reserved, triplet_id, inline_reserved, early_start, late_end}
use Rattle.locator.specs.declared.DvbBinaryLocator.{DvbBinaryLocator}
use Rattle.locator.specs.declared.DvbLocatorService.{DvbLocatorService}
use Rattle.locator.specs.declared.DvbLocatorService.TheVariants.{Triplet, Full}
use Rattle.locator.specs.declared.DvbLocatorIdentifier.{DvbLocatorIdentifier}
use Rattle.locator.specs.declared.DvbLocatorIdentifier.TheVariants.{None as NoIdentifier, EventId, TvaIdEit, TvaIdPes}
use Rattle.locator.specs.Windows.{Windows}

-- ---- the bytes

-- identifier_type, 2 bits (Table 32)
abbrev pub type_of : DvbLocatorIdentifier → ℕ
type_of NoIdentifier = 0
type_of (EventId e) = 1
type_of (TvaIdEit t) = 2
type_of (TvaIdPes t c) = 3

-- inline_service, 1 bit
abbrev pub is_inline : DvbLocatorService → Bool
is_inline (Triplet t) = false
is_inline (Full r ts on sv) = true

-- the 2 bits behind start_date: the highest of DVB_service_triplet_ID, or reserved
abbrev pub last_bits : DvbLocatorService → ℕ
last_bits (Triplet t) = t / 256
last_bits (Full r ts on sv) = r

-- the first 16 bits: identifier_type 2, scheduled_time_reliability 1, inline_service 1, reserved 1, start_date 9, the last 2
abbrev pub head_of : DvbBinaryLocator → ℕ
head_of l =
    type_of l.identifier * 0x4000 + bit l.scheduled_time_reliability * 0x2000 + bit (is_inline l.service) * 0x1000
    + l.reserved * 0x800 + l.start_date * 4 + last_bits l.service

-- the rest of DVB_service_triplet_ID; or transport_stream_id, original_network_id, service_id
abbrev pub service_bytes : DvbLocatorService → List ℕ
service_bytes (Triplet t) = t % 256 ∷ []
service_bytes (Full r ts on sv) = bytes16 ts ++ bytes16 on ++ bytes16 sv

-- event_id; or TVA_id; or TVA_id and component
abbrev pub identifier_bytes : DvbLocatorIdentifier → List ℕ
identifier_bytes NoIdentifier = []
identifier_bytes (EventId e) = bytes16 e
identifier_bytes (TvaIdEit t) = bytes16 t
identifier_bytes (TvaIdPes t c) = bytes16 t ++ c ∷ []

-- early_start_window 3, late_end_window 5
abbrev pub windows_bytes : Windows → List ℕ
windows_bytes None = []
windows_bytes (Some w) = (w.early_start_window * 32 + w.late_end_window) ∷ []

unfoldable pub locator_bytes : DvbBinaryLocator → List ℕ
locator_bytes l =
    bytes16 (head_of l) ++ service_bytes l.service ++ bytes16 l.start_time ++ bytes16 l.duration
    ++ identifier_bytes l.identifier ++ windows_bytes l.windows

-- ---- their number

abbrev pub head_length : ℕ
head_length = 2

abbrev pub triplet_length : ℕ
triplet_length = 1

abbrev pub inline_length : ℕ
inline_length = 6

abbrev pub times_length : ℕ
times_length = 4

abbrev pub id_length : ℕ
id_length = 2

abbrev pub component_length : ℕ
component_length = 1

abbrev pub window_length : ℕ
window_length = 1

-- 7 and 15: an identifier leaves no room for windows
abbrev pub shortest_locator : ℕ
shortest_locator = head_length + triplet_length + times_length

abbrev pub longest_locator : ℕ
longest_locator = head_length + inline_length + times_length + id_length + component_length

abbrev pub service_length : DvbLocatorService → ℕ
service_length (Triplet t) = triplet_length
service_length (Full r ts on sv) = inline_length

abbrev pub identifier_length : DvbLocatorIdentifier → ℕ
identifier_length NoIdentifier = 0
identifier_length (EventId e) = id_length
identifier_length (TvaIdEit t) = id_length
identifier_length (TvaIdPes t c) = id_length + component_length

abbrev pub windows_length : Windows → ℕ
windows_length None = 0
windows_length (Some w) = window_length

unfoldable pub locator_length : DvbBinaryLocator → ℕ
locator_length l = head_length + service_length l.service + times_length + identifier_length l.identifier + windows_length l.windows

-- ---- which locators have bytes

-- each narrow field is at most its widest number; what is absent has none
abbrev pub ServiceFits : DvbLocatorService → Type 0
ServiceFits (Triplet t) = t ≤ triplet_id.widest
ServiceFits (Full r ts on sv) = r ≤ inline_reserved.widest

abbrev pub WindowsFit : Windows → Type 0
WindowsFit None = Unit
WindowsFit (Some w) = (w.early_start_window ≤ early_start.widest) × (w.late_end_window ≤ late_end.widest)

pub record Narrow (l : DvbBinaryLocator) : Type 0 where
  pub date : l.start_date ≤ start_date.widest
  pub reserved : l.reserved ≤ locator_reserved.widest
  pub service : ServiceFits l.service
  pub windows : WindowsFit l.windows

-- windows are present exactly if there is no identifier and reliability is set
abbrev pub are_due : DvbLocatorIdentifier → Bool → Bool
are_due NoIdentifier r = r
are_due (EventId e) r = false
are_due (TvaIdEit t) r = false
are_due (TvaIdPes t c) r = false

abbrev pub are_here : Windows → Bool
are_here None = false
are_here (Some w) = true

abbrev pub Ruled : DvbBinaryLocator → Type 0
Ruled l = are_here l.windows ≡ are_due l.identifier l.scheduled_time_reliability

-- the fields of 16 and of 8 bits are numbers of that width
abbrev pub ServiceCarried : DvbLocatorService → Type 0
ServiceCarried (Triplet t) = Unit
ServiceCarried (Full r ts on sv) = (ts < 65536) × (on < 65536) × (sv < 65536)

abbrev pub IdentifierCarried : DvbLocatorIdentifier → Type 0
IdentifierCarried NoIdentifier = Unit
IdentifierCarried (EventId e) = e < 65536
IdentifierCarried (TvaIdEit t) = t < 65536
IdentifierCarried (TvaIdPes t c) = (t < 65536) × (c < 256)

pub record Carried (l : DvbBinaryLocator) : Type 0 where
  pub start : l.start_time < 65536
  pub duration : l.duration < 65536
  pub service : ServiceCarried l.service
  pub identifier : IdentifierCarried l.identifier

pub record Fits (l : DvbBinaryLocator) : Type 0 where
  pub narrow : Narrow l
  pub rule : Ruled l
  pub carried : Carried l

-- ---- made of their fields, and with every reserved bit a one

abbrev pub inline_service : ℕ → ℕ → ℕ → ℕ → DvbLocatorService
inline_service r ts on sv = Full r ts on sv

abbrev pub full_service : ℕ → ℕ → ℕ → DvbLocatorService
full_service ts on sv = inline_service inline_reserved.widest ts on sv

abbrev pub locator_of : Bool → ℕ → ℕ → DvbLocatorService → ℕ → ℕ → DvbLocatorIdentifier → Windows → DvbBinaryLocator
locator_of r s d v t u i w = record {
  scheduled_time_reliability = r;
  reserved = s;
  start_date = d;
  service = v;
  start_time = t;
  duration = u;
  identifier = i;
  windows = w;
}

abbrev pub new_locator : Bool → ℕ → DvbLocatorService → ℕ → ℕ → DvbLocatorIdentifier → Windows → DvbBinaryLocator
new_locator r d v t u i w = locator_of r locator_reserved.widest d v t u i w
