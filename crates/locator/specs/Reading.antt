-- What reading a locator at the start of some bytes gives: a verdict, row by row in reading order, and apart from it the
-- locator that stands there and the bytes that it takes, which mean something where the verdict is Fine. Asked only for its
-- size, the answer is the same verdict and the same number of bytes.
-- Assumes nothing.
use Rattle.std.specs.Prelude.{ℕ, ◌+◌, ◌/◌, ◌%◌, Bool, false, List, length, get_or, eqb, ltb, Err, None, Ok, Result}
use Rattle.wire.specs.Choice.{pick}
use Rattle.wire.specs.Numbers.{be16}
use Rattle.field.specs.Fields.{start_date, locator_reserved, triplet_id, inline_reserved, early_start, late_end, low}
use Rattle.wire.specs.Refusals.{locator_cut}
use Rattle.wire.specs.Verdict.{refuse, ◌▷◌, Fine, Verdict}
use Rattle.wire.specs.declared.verdict.Refusal.{Refusal}
use Rattle.locator.specs.Syntax.{head_length, triplet_length, inline_length, times_length, id_length, component_length, window_length}
use Rattle.locator.specs.declared.DvbBinaryLocator.{DvbBinaryLocator}
use Rattle.locator.specs.declared.DvbLocatorService.{DvbLocatorService}
use Rattle.locator.specs.declared.DvbLocatorService.TheVariants.{Triplet, Full}
use Rattle.locator.specs.declared.DvbLocatorIdentifier.{DvbLocatorIdentifier}
use Rattle.locator.specs.declared.DvbLocatorIdentifier.TheVariants.{None as NoIdentifier, EventId, TvaIdEit, TvaIdPes}
use Rattle.locator.specs.Windows.{Windows, some_windows}
use Rattle.locator.specs.declared.reading.LocatorRead.{LocatorRead}

-- a locator, and how many bytes it took
abbrev pub got_locator : DvbBinaryLocator → ℕ → Result LocatorRead Refusal
got_locator l n = Ok (record { locator = l; used = n })

-- ---- what the first 16 bits settle

-- identifier_type, scheduled_time_reliability, inline_service
abbrev pub type_in : ℕ → ℕ
type_in h = h / 0x4000

abbrev pub reliable : ℕ → Bool
reliable h = eqb (h / 0x2000 % 2) 1

abbrev pub inline : ℕ → Bool
inline h = eqb (h / 0x1000 % 2) 1

-- a window byte follows exactly if the type is 0 and reliability is set
abbrev pub windows_due : ℕ → Bool
windows_due h = pick (eqb (type_in h) 0) (reliable h) false

-- where the service ends: 3, or 8 if it is inline
abbrev pub service_end : ℕ → ℕ
service_end h = pick (inline h) (head_length + inline_length) (head_length + triplet_length)

-- how many bytes follow the times
abbrev pub tail_length : ℕ → ℕ
tail_length h = pick (windows_due h) window_length (pick (eqb (type_in h) 0) 0 (pick (eqb (type_in h) 3) (id_length + component_length) id_length))

-- ---- what stands there

abbrev pub service_at : List ℕ → ℕ → DvbLocatorService
service_at xs h = pick (inline h) (Full (low inline_reserved h) (be16 xs 2) (be16 xs 4) (be16 xs 6)) (Triplet (low triplet_id (be16 xs 1)))

abbrev pub identifier_at : List ℕ → ℕ → ℕ → DvbLocatorIdentifier
identifier_at xs h p =
    pick (eqb (type_in h) 0) NoIdentifier
    (pick (eqb (type_in h) 3) (TvaIdPes (be16 xs p) (get_or xs (p + id_length) 0))
    (pick (eqb (type_in h) 1) (EventId (be16 xs p)) (TvaIdEit (be16 xs p))))

abbrev pub windows_at : List ℕ → ℕ → ℕ → Windows
windows_at xs h p = pick (windows_due h) (some_windows (low early_start (get_or xs p 0 / 32)) (low late_end (get_or xs p 0))) None

-- the locator with the head h whose times start at p
abbrev pub headed_at : List ℕ → ℕ → ℕ → DvbBinaryLocator
headed_at xs h p = record {
  scheduled_time_reliability = reliable h;
  reserved = low locator_reserved (h / 0x800);
  start_date = low start_date (h / 4);
  service = service_at xs h;
  start_time = be16 xs p;
  duration = be16 xs (p + 2);
  identifier = identifier_at xs h (p + times_length);
  windows = windows_at xs h (p + times_length);
}

unfoldable pub locator_at : List ℕ → DvbBinaryLocator
locator_at xs = headed_at xs (be16 xs 0) (service_end (be16 xs 0))

-- the bytes that it takes
unfoldable pub size_at : List ℕ → ℕ
size_at xs = service_end (be16 xs 0) + times_length + tail_length (be16 xs 0)

-- ---- the verdict and the answer

-- fine, or 10 with what is needed and what is there
abbrev pub needs : List ℕ → ℕ → Verdict
needs xs n = refuse (ltb (length xs) n) locator_cut n (length xs)

unfoldable pub locator_verdict : List ℕ → Verdict
locator_verdict xs =
    needs xs head_length ▷ needs xs (service_end (be16 xs 0)) ▷ needs xs (service_end (be16 xs 0) + times_length) ▷ needs xs (size_at xs)

-- refused: cut off
abbrev pub cut_off : ℕ → ℕ → Refusal
cut_off need have = record { number = locator_cut; first = need; second = have }

abbrev pub cut : ℕ → ℕ → Result LocatorRead Refusal
cut need have = Err (cut_off need have)

-- the number of bytes alone, by the verdict
abbrev pub sized : Verdict → ℕ → Result ℕ Refusal
sized (Ok _) n = Ok n
sized (Err r) n = Err r

unfoldable pub locator_size : List ℕ → Result ℕ Refusal
locator_size xs = sized (locator_verdict xs) (size_at xs)

-- the answer that a verdict makes of what stands there
abbrev pub answer : Verdict → DvbBinaryLocator → ℕ → Result LocatorRead Refusal
answer (Ok _) l n = got_locator l n
answer (Err r) l n = Err r

unfoldable pub read_locator : List ℕ → Result LocatorRead Refusal
read_locator xs = answer (locator_verdict xs) (locator_at xs) (size_at xs)
