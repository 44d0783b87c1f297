-- The syntax of a fitting locator gives bytes.
-- Assumes nothing.
use Prim.Native.Nat.{ℕ, ◌+◌, ◌≤◌, ◌<◌}
use mathlib.Core.Bool.{Bool, true, false}
use mathlib.Core.List.{[], ◌∷◌, ◌++◌}
use native.Mathlib.Omega.{arith}
use Rattle.wire.specs.Choice.{bit}
use Rattle.field.specs.Fields.{inline_reserved}
use Rattle.wire.specs.Lists.{Bytes}
use Rattle.wire.specs.Numbers.{bytes16}
use Rattle.wire.proofs.Lists.{bytes-append}
use Rattle.locator.specs.Syntax.{type_of, is_inline, last_bits, head_of, service_bytes, identifier_bytes, windows_bytes, locator_bytes, ServiceFits, WindowsFit, Narrow, ServiceCarried, IdentifierCarried, Fits}
use Rattle.locator.specs.declared.DvbBinaryLocator.{DvbBinaryLocator}
use Rattle.locator.specs.declared.DvbLocatorService.{DvbLocatorService}
use Rattle.locator.specs.declared.DvbLocatorService.TheVariants.{Triplet, Full}
use Rattle.locator.specs.declared.DvbLocatorIdentifier.{DvbLocatorIdentifier}
use Rattle.locator.specs.declared.DvbLocatorIdentifier.TheVariants.{None as NoIdentifier, EventId, TvaIdEit, TvaIdPes}
use Rattle.locator.specs.Windows.{Windows}
use Rattle.std.specs.Prelude.{None, Some}

-- ---- the head fits 16 bits

pub bit_le : (b : Bool) → bit b ≤ 1
bit_le true = omega arith
bit_le false = omega arith

pub type-le : (i : DvbLocatorIdentifier) → type_of i ≤ 3
type-le NoIdentifier = omega arith
type-le (EventId e) = omega arith
type-le (TvaIdEit t) = omega arith
type-le (TvaIdPes t c) = omega arith

pub last-le : (v : DvbLocatorService) → ServiceFits v → last_bits v ≤ inline_reserved.widest
last-le (Triplet t) f = omega arith
last-le (Full r ts on sv) f = f

pub head-lt : (l : DvbBinaryLocator) → Narrow l → head_of l < 65536
head-lt l f = omega (arith, type-le l.identifier, bit_le l.scheduled_time_reliability, bit_le (is_inline l.service), last-le l.service f.service)

-- ---- the fields

word_bytes : (n : ℕ) → n < 65536 → Bytes (bytes16 n)
word_bytes n h = (omega arith, (omega arith, tt))

service-bytes : (v : DvbLocatorService) → ServiceCarried v → Bytes (service_bytes v)
service-bytes (Triplet t) c = (omega arith, tt)
service-bytes (Full r ts on sv) c = bytes-append (bytes16 ts ++ bytes16 on) (bytes16 sv) (bytes-append (bytes16 ts) (bytes16 on) (word_bytes ts c.0) (word_bytes on c.1)) (word_bytes sv c.2)

identifier-bytes : (i : DvbLocatorIdentifier) → IdentifierCarried i → Bytes (identifier_bytes i)
identifier-bytes NoIdentifier c = tt
identifier-bytes (EventId e) c = word_bytes e c
identifier-bytes (TvaIdEit t) c = word_bytes t c
identifier-bytes (TvaIdPes t k) c = bytes-append (bytes16 t) (k ∷ []) (word_bytes t c.0) (c.1, tt)

windows-bytes : (w : Windows) → WindowsFit w → Bytes (windows_bytes w)
windows-bytes None f = tt
windows-bytes (Some w) f = (omega arith, tt)

-- ---- the whole

pub spelt-bytes : (l : DvbBinaryLocator) → Fits l → Bytes (locator_bytes l)
unfolding locator_bytes
spelt-bytes l f =
    let c = f.carried in
    let service = bytes16 (head_of l) ++ service_bytes l.service in
    let start = service ++ bytes16 l.start_time in
    let duration = start ++ bytes16 l.duration in
    let identifier = duration ++ identifier_bytes l.identifier in
    let service-ok = bytes-append (bytes16 (head_of l)) (service_bytes l.service) (word_bytes (head_of l) (head-lt l f.narrow)) (service-bytes l.service c.service) in
    let start-ok = bytes-append service (bytes16 l.start_time) service-ok (word_bytes l.start_time c.start) in
    let duration-ok = bytes-append start (bytes16 l.duration) start-ok (word_bytes l.duration c.duration) in
    let identifier-ok = bytes-append duration (identifier_bytes l.identifier) duration-ok (identifier-bytes l.identifier c.identifier) in
    bytes-append identifier (windows_bytes l.windows) identifier-ok (windows-bytes l.windows f.narrow.windows)
