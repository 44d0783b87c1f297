-- What writing gives: the bytes of any record, taken by its lowest bits; of a locator that passes the checks, or fits, its
-- own bytes, which read back as it.
-- Assumes nothing.
use Prim.Native.Nat.{ℕ, ◌+◌, ◌-◌, ◌≤◌}
use mathlib.Core.Path.{◌≡◌, refl, sym, ap, ap₂, ◌∙◌}
use mathlib.Core.List.{List, ◌++◌}
use native.Mathlib.Omega.{arith}
use native.Mathlib.Nat.{zero-add}
use lib.ListN.{length, take, drop, length-replicate, replicate-append-replicate}
use lib.Seq.{sets, sets-eq, drop_at, take_at}
use Rattle.byte_stores.specs.Stores.{Wrote}
use Rattle.field.specs.Fields.{start_date, locator_reserved, triplet_id, inline_reserved, early_start, late_end}
use Rattle.field.proofs.Checks.{low-whole}
use Rattle.locator.specs.Syntax.{inline_length, id_length, component_length, window_length, locator_bytes, service_length, identifier_length, windows_length, locator_length, ServiceFits, WindowsFit, Narrow, Fits, locator_of}
use Rattle.locator.specs.Checks.{check_fields}
use Rattle.locator.specs.Reading.{read_locator, got_locator}
use Rattle.locator.specs.Writing.{narrowed_service, narrowed_windows, narrowed, longest_written, zeros, written_locator}
use Rattle.locator.specs.declared.DvbBinaryLocator.{DvbBinaryLocator}
use Rattle.locator.specs.declared.DvbLocatorService.{DvbLocatorService}
use Rattle.locator.specs.declared.DvbLocatorService.TheVariants.{Triplet, Full}
use Rattle.locator.specs.declared.DvbLocatorIdentifier.{DvbLocatorIdentifier}
use Rattle.locator.specs.declared.DvbLocatorIdentifier.TheVariants.{None as NoIdentifier, EventId, TvaIdEit, TvaIdPes}
use Rattle.locator.proofs.Back.{read_back}
use Rattle.locator.proofs.Checked.{fields-narrow}
use Rattle.locator.proofs.Sizes.{bytes-length}
use Rattle.locator.specs.Windows.{Windows, some_windows}
use Rattle.std.specs.Prelude.{None, Some}
use Rattle.wire.specs.Verdict.{Fine}

-- ---- lowest bits: they fit, and what fits keeps all of its own

service-narrow : (v : DvbLocatorService) → ServiceFits (narrowed_service v)
service-narrow (Triplet t) = omega arith
service-narrow (Full r ts on sv) = omega arith

windows-narrow : (w : Windows) → WindowsFit (narrowed_windows w)
windows-narrow None = tt
windows-narrow (Some w) = (omega arith, omega arith)

pub narrowed-narrow : (l : DvbBinaryLocator) → Narrow (narrowed l)
narrowed-narrow l = record { date = omega arith; reserved = omega arith; service = service-narrow l.service; windows = windows-narrow l.windows }

service-whole : (v : DvbLocatorService) → ServiceFits v → narrowed_service v ≡ v
service-whole (Triplet t) f = ap Triplet (low-whole triplet_id t f)
service-whole (Full r ts on sv) f = ap (λ x. Full x ts on sv) (low-whole inline_reserved r f)

windows-whole : (w : Windows) → WindowsFit w → narrowed_windows w ≡ w
windows-whole None f = refl
windows-whole (Some w) f = ap₂ some_windows (low-whole early_start w.early_start_window f.0) (low-whole late_end w.late_end_window f.1)

pub narrowed-same : (l : DvbBinaryLocator) → Narrow l → narrowed l ≡ l
narrowed-same l f =
    let reserved = low-whole locator_reserved l.reserved f.reserved in
    let date = low-whole start_date l.start_date f.date in
    let service = service-whole l.service f.service in
    let windows = windows-whole l.windows f.windows in
    λ i. locator_of l.scheduled_time_reliability (reserved i) (date i) (service i) l.start_time l.duration l.identifier (windows i)

-- ---- as many as the length says, and never more than there is room for

service-size : (v : DvbLocatorService) → service_length (narrowed_service v) ≡ service_length v
service-size (Triplet t) = refl
service-size (Full r ts on sv) = refl

windows_size : (w : Windows) → windows_length (narrowed_windows w) ≡ windows_length w
windows_size None = refl
windows_size (Some w) = refl

pub narrowed-length : (l : DvbBinaryLocator) → locator_length (narrowed l) ≡ locator_length l
unfolding locator_length
narrowed-length l = rw (service-size l.service, windows_size l.windows)

service-most : (v : DvbLocatorService) → service_length v ≤ inline_length
service-most (Triplet t) = omega arith
service-most (Full r ts on sv) = omega arith

identifier-most : (i : DvbLocatorIdentifier) → identifier_length i ≤ id_length + component_length
identifier-most NoIdentifier = omega arith
identifier-most (EventId e) = omega arith
identifier-most (TvaIdEit t) = omega arith
identifier-most (TvaIdPes t c) = omega arith

windows-most : (w : Windows) → windows_length w ≤ window_length
windows-most None = omega arith
windows-most (Some w) = omega arith

pub length_most : (l : DvbBinaryLocator) → locator_length l ≤ longest_written
unfolding locator_length
length_most l = omega (arith, service-most l.service, identifier-most l.identifier, windows-most l.windows)

-- ---- what the stores leave

length-zeros : (n : ℕ) → length (zeros n) ≡ n
length-zeros n = length-replicate {A = ℕ} n 0

drop-zeros : (n k : ℕ) → k ≤ n → drop k (zeros n) ≡ zeros (n - k)
drop-zeros n k h =
    let sum : k + (n - k) ≡ n = omega arith in
    let split : zeros k ++ zeros (n - k) ≡ zeros n = replicate-append-replicate {A = ℕ} k (n - k) 0 ∙ ap zeros sum in
    ap (λ zs. drop k zs) (sym split) ∙ drop_at (zeros k) (zeros (n - k)) k (length-zeros k)

stored : (n : ℕ) (vs : List ℕ) → length vs ≤ n → sets (zeros n) 0 vs ≡ vs ++ zeros (n - length vs)
stored n vs h =
    let room : 0 + length vs ≤ length (zeros n) = omega (arith, length-zeros n) in
    sets-eq vs (zeros n) 0 room ∙ rw zero-add (ap (λ zs. vs ++ zs) (drop-zeros n (length vs) h))

pub wrote-written : (l : DvbBinaryLocator) (ys : List ℕ) (n : ℕ) → Wrote (zeros longest_written) 0 (locator_bytes (narrowed l)) ys n → record { bytes = ys; length = n } ≡ written_locator l
unfolding written_locator
wrote-written l ys n w =
    let xs = locator_bytes (narrowed l) in
    let long : length xs ≤ longest_written = omega (arith, bytes-length (narrowed l), length_most (narrowed l)) in
    let ys-is : ys ≡ xs ++ zeros (longest_written - length xs) = w.bytes ∙ stored longest_written xs long in
    let n-is : n ≡ length xs = omega (arith, w.place) in
    λ i. record { bytes = ys-is i; length = n-is i }

-- ---- of any record

pub written-take : (l : DvbBinaryLocator) → take (written_locator l).length (written_locator l).bytes ≡ locator_bytes (narrowed l)
unfolding written_locator
written-take l = let xs = locator_bytes (narrowed l) in take_at xs (zeros (longest_written - length xs)) (length xs) refl

pub written-length : (l : DvbBinaryLocator) → (written_locator l).length ≡ locator_length l
unfolding written_locator
written-length l = bytes-length (narrowed l) ∙ narrowed-length l

-- ---- of one whose fields are narrow enough, as are those of one that fits or passes the checks

pub record WrittenAs (l : DvbBinaryLocator) : Type 0 where
  pub same : narrowed l ≡ l
  pub bytes : take (written_locator l).length (written_locator l).bytes ≡ locator_bytes l
  pub number : (written_locator l).length ≡ locator_length l

pub written-narrow : (l : DvbBinaryLocator) → Narrow l → WrittenAs l
written-narrow l f = let same = narrowed-same l f in record { same = same; bytes = written-take l ∙ ap locator_bytes same; number = written-length l }

pub written-fits : (l : DvbBinaryLocator) → Fits l → WrittenAs l
written-fits l f = written-narrow l f.narrow

pub written-checked : (l : DvbBinaryLocator) → check_fields l ≡ Fine → WrittenAs l
written-checked l e = written-narrow l (fields-narrow l e)

pub written_read : (l : DvbBinaryLocator) → Fits l → read_locator (written_locator l).bytes ≡ got_locator l (written_locator l).length
unfolding written_locator
written_read l f = rw (narrowed-same l f.narrow) (read_back l (zeros (longest_written - length (locator_bytes l))) f)
