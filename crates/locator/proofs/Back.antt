-- Read back: the bytes of a fitting locator, whatever follows them, read as that locator.
-- Assumes nothing.
use Prim.Native.Nat.{ℕ, ◌+◌, ◌*◌, ◌/◌, ◌%◌, ◌≤◌}
use mathlib.Core.Path.{◌≡◌, refl, ap₂, ◌∙◌}
use mathlib.Core.Bool.{Bool, true, false, true≢false}
use mathlib.Core.List.{List, ◌++◌, append_assoc}
use native.Mathlib.Omega.{arith}
use lib.Dec.{eqb}
use lib.ListN.{length, length-append}
use Rattle.wire.specs.Choice.{pick, bit}
use Rattle.field.specs.Fields.{start_date, locator_reserved, triplet_id, inline_reserved, low}
use Rattle.wire.specs.Numbers.{word16, be16}
use Rattle.wire.proofs.Words.{word16-back}
use Rattle.locator.specs.Syntax.{head_length, triplet_length, inline_length, type_of, is_inline, last_bits, head_of, identifier_bytes, windows_bytes, locator_bytes, service_length, identifier_length, windows_length, locator_length, WindowsFit, Narrow, are_here, are_due, Ruled, Fits, locator_of}
use Rattle.locator.specs.Reading.{type_in, reliable, inline, service_end, tail_length, identifier_at, windows_at, headed_at, locator_at, size_at, read_locator, got_locator}
use Rattle.locator.specs.declared.DvbBinaryLocator.{DvbBinaryLocator}
use Rattle.locator.specs.declared.DvbLocatorService.{DvbLocatorService}
use Rattle.locator.specs.declared.DvbLocatorService.TheVariants.{Triplet, Full}
use Rattle.locator.specs.declared.DvbLocatorIdentifier.{DvbLocatorIdentifier}
use Rattle.locator.specs.declared.DvbLocatorIdentifier.TheVariants.{None as NoIdentifier, EventId, TvaIdEit, TvaIdPes}
use Rattle.locator.proofs.Answers.{enough-fine, read-fine}
use Rattle.locator.proofs.Sizes.{bytes-length}
use Rattle.locator.proofs.Spelling.{bit_le, last-le}
use Rattle.locator.specs.Windows.{Windows}
use Rattle.std.specs.Prelude.{None, Some}

-- ---- the head

bit_is : (b : Bool) → eqb (bit b) 1 ≡ b
bit_is true = refl
bit_is false = refl

module _ (l : DvbBinaryLocator) (f : Narrow l) where
  pub type-back : type_in (head_of l) ≡ type_of l.identifier
  type-back = omega (arith, bit_le l.scheduled_time_reliability, bit_le (is_inline l.service), last-le l.service f.service)

  pub reliable-bit : head_of l / 0x2000 % 2 ≡ bit l.scheduled_time_reliability
  reliable-bit = omega (arith, bit_le l.scheduled_time_reliability, bit_le (is_inline l.service), last-le l.service f.service)

  reliable-back : reliable (head_of l) ≡ l.scheduled_time_reliability
  reliable-back = rw reliable-bit (bit_is l.scheduled_time_reliability)

  pub inline-bit : head_of l / 0x1000 % 2 ≡ bit (is_inline l.service)
  inline-bit = omega (arith, bit_le (is_inline l.service), last-le l.service f.service)

  inline-back : inline (head_of l) ≡ is_inline l.service
  inline-back = rw inline-bit (bit_is (is_inline l.service))

  pub reserved-back : low locator_reserved (head_of l / 0x800) ≡ l.reserved
  reserved-back = omega (arith, last-le l.service f.service)

  pub date-back : low start_date (head_of l / 4) ≡ l.start_date
  date-back = omega (arith, last-le l.service f.service)

  pub last-back : low inline_reserved (head_of l) ≡ last_bits l.service
  last-back = omega (arith, last-le l.service f.service)

-- a triplet id, whose highest bits are the head's lowest
triplet-back : (h t : ℕ) → t ≤ triplet_id.widest → low inline_reserved h ≡ t / 256 → low triplet_id (word16 (h % 256) (t % 256)) ≡ t
triplet-back h t f e = omega arith

-- ---- what follows the times

record TailRead (h : ℕ) (ys : List ℕ) (i : DvbLocatorIdentifier) (w : Windows) : Type 0 where
  identifier : identifier_at (identifier_bytes i ++ (windows_bytes w ++ ys)) h 0 ≡ i
  windows : windows_at (identifier_bytes i ++ (windows_bytes w ++ ys)) h 0 ≡ w
  size : tail_length h ≡ identifier_length i + windows_length w

tail-back : (h : ℕ) (ys : List ℕ) (r : Bool) (i : DvbLocatorIdentifier) (w : Windows) → WindowsFit w → are_here w ≡ are_due i r → type_in h ≡ type_of i → reliable h ≡ r → TailRead h ys i w
tail-back h ys r NoIdentifier None f d e q = record { identifier = simp e; windows = simp (e, q, ← d); size = simp (e, q, ← d) }
tail-back h ys r NoIdentifier (Some w) f d e q =
    let early : (w.early_start_window * 32 + w.late_end_window) / 32 % 8 ≡ w.early_start_window = omega arith in
    let late : (w.early_start_window * 32 + w.late_end_window) % 32 ≡ w.late_end_window = omega arith in
    record { identifier = simp e; windows = simp (e, q, ← d, early, late); size = simp (e, q, ← d) }
tail-back h ys r (EventId x) None f d e q = record { identifier = simp (e, word16-back); windows = simp e; size = simp e }
tail-back h ys r (TvaIdEit x) None f d e q = record { identifier = simp (e, word16-back); windows = simp e; size = simp e }
tail-back h ys r (TvaIdPes x c) None f d e q = record { identifier = simp (e, word16-back); windows = simp e; size = simp e }
tail-back h ys r (EventId x) (Some w) f d e q = absurd (true≢false d)
tail-back h ys r (TvaIdEit x) (Some w) f d e q = absurd (true≢false d)
tail-back h ys r (TvaIdPes x c) (Some w) f d e q = absurd (true≢false d)

-- ---- the whole

head-back : (l : DvbBinaryLocator) (rest : List ℕ) → be16 (locator_bytes l ++ rest) 0 ≡ head_of l
unfolding locator_bytes
head-back l rest = word16-back (head_of l)

module _ (l : DvbBinaryLocator) (f : Narrow l) (d : Ruled l) (rest : List ℕ) where
  tail : TailRead (head_of l) rest l.identifier l.windows
  tail = tail-back (head_of l) rest l.scheduled_time_reliability l.identifier l.windows f.windows d (type-back l f) (reliable-back l f)

  pub size_back : size_at (locator_bytes l ++ rest) ≡ length (locator_bytes l)
  unfolding size_at locator_length
  size_back =
      let a : service_end (head_of l) ≡ head_length + service_length l.service = rw (inline-back l f) (go l.service) in
      rw (head-back l rest) (omega (arith, bytes-length l, tail.size))
    where
      go : (v : DvbLocatorService) → pick (is_inline v) (head_length + inline_length) (head_length + triplet_length) ≡ head_length + service_length v
      go (Triplet t) = refl
      go (Full r ts on sv) = refl

module _ (r : Bool) (s d t u : ℕ) (i : DvbLocatorIdentifier) (w : Windows) (rest : List ℕ) where
  fields_back : (v : DvbLocatorService) → Narrow (locator_of r s d v t u i w) → Ruled (locator_of r s d v t u i w) → let l = locator_of r s d v t u i w in headed_at (locator_bytes l ++ rest) (head_of l) (service_end (head_of l)) ≡ l
  unfolding locator_bytes
  fields_back (Triplet k) f e =
      let l = locator_of r s d (Triplet k) t u i w in
      let g = tail l f e rest in
      simp (append_assoc, inline-back l f, reserved-back l f, date-back l f, triplet-back (head_of l) k f.service (last-back l f), word16-back, g.identifier, rw (reliable-back l f) at g.windows, reliable-back l f)
  fields_back (Full b x y z) f e =
      let l = locator_of r s d (Full b x y z) t u i w in
      let g = tail l f e rest in
      simp (append_assoc, inline-back l f, reserved-back l f, date-back l f, last-back l f, word16-back, g.identifier, rw (reliable-back l f) at g.windows, reliable-back l f)

pub read_back : (l : DvbBinaryLocator) (rest : List ℕ) → Fits l → read_locator (locator_bytes l ++ rest) ≡ got_locator l (length (locator_bytes l))
unfolding locator_at
read_back l rest f =
    read-fine (locator_bytes l ++ rest) (enough-fine (locator_bytes l ++ rest) (omega (arith, size_back l f.narrow f.rule rest, length-append (locator_bytes l) rest)))
    ∙ ap₂ got_locator (rw (head-back l rest) (fields_back l.scheduled_time_reliability l.reserved l.start_date l.start_time l.duration l.identifier l.windows rest l.service f.narrow f.rule)) (size_back l f.narrow f.rule rest)
