-- How many bytes a locator has: its syntax has as many as its length says, one of eight numbers if its windows are as the
-- rule has them; and a reading takes one of the eight.
-- Assumes nothing.
use Prim.Native.Nat.{ℕ, ◌+◌, ◌≤◌}
use mathlib.Core.Path.{◌≡◌, refl}
use mathlib.Core.Logic.{◌⊎◌, inl, inr}
use mathlib.Core.Bool.{Bool, true, false, true≢false}
use mathlib.Core.List.{List, [], ◌∷◌}
use native.Mathlib.Omega.{arith}
use lib.Dec.{eqb}
use lib.ListN.{length, length-append}
use Rattle.wire.specs.Numbers.{be16}
use Rattle.locator.specs.Syntax.{service_bytes, identifier_bytes, windows_bytes, locator_bytes, head_length, times_length, service_length, identifier_length, windows_length, locator_length, shortest_locator, longest_locator, are_here, are_due, Ruled}
use Rattle.locator.specs.Reading.{type_in, reliable, inline, size_at, read_locator, got_locator}
use Rattle.locator.specs.declared.DvbBinaryLocator.{DvbBinaryLocator}
use Rattle.locator.specs.declared.DvbLocatorService.{DvbLocatorService}
use Rattle.locator.specs.declared.DvbLocatorService.TheVariants.{Triplet, Full}
use Rattle.locator.specs.declared.DvbLocatorIdentifier.{DvbLocatorIdentifier}
use Rattle.locator.specs.declared.DvbLocatorIdentifier.TheVariants.{None as NoIdentifier, EventId, TvaIdEit, TvaIdPes}
use Rattle.locator.proofs.Answers.{got-had}
use Rattle.locator.specs.Windows.{Windows}
use Rattle.std.specs.Prelude.{None, Some}

-- ---- as many as its length says

pub service-length : (v : DvbLocatorService) → length (service_bytes v) ≡ service_length v
service-length (Triplet t) = refl
service-length (Full r ts on sv) = refl

pub identifier-length : (i : DvbLocatorIdentifier) → length (identifier_bytes i) ≡ identifier_length i
identifier-length NoIdentifier = refl
identifier-length (EventId e) = refl
identifier-length (TvaIdEit t) = refl
identifier-length (TvaIdPes t c) = refl

pub windows-length : (w : Windows) → length (windows_bytes w) ≡ windows_length w
windows-length None = refl
windows-length (Some w) = refl

pub bytes-length : (l : DvbBinaryLocator) → length (locator_bytes l) ≡ locator_length l
unfolding locator_bytes locator_length
bytes-length l = simp (length-append, service-length, identifier-length, windows-length) (omega arith)

-- ---- one of eight

abbrev pub OneOf : List ℕ → ℕ → Type 0
OneOf [] n = ⊥
OneOf (x ∷ xs) n = (n ≡ x) ⊎ OneOf xs n

abbrev pub lengths : List ℕ
lengths = 7 ∷ 8 ∷ 9 ∷ 10 ∷ 12 ∷ 13 ∷ 14 ∷ 15 ∷ []

pub between : (n : ℕ) → OneOf lengths n → (shortest_locator ≤ n) × (n ≤ longest_locator)
between n (inl e) = (omega arith, omega arith)
between n (inr (inl e)) = (omega arith, omega arith)
between n (inr (inr (inl e))) = (omega arith, omega arith)
between n (inr (inr (inr (inl e)))) = (omega arith, omega arith)
between n (inr (inr (inr (inr (inl e))))) = (omega arith, omega arith)
between n (inr (inr (inr (inr (inr (inl e)))))) = (omega arith, omega arith)
between n (inr (inr (inr (inr (inr (inr (inl e))))))) = (omega arith, omega arith)
between n (inr (inr (inr (inr (inr (inr (inr (inl e)))))))) = (omega arith, omega arith)
between n (inr (inr (inr (inr (inr (inr (inr (inr x8)))))))) = elim x8 [ ]

-- a locator whose windows are as the rule has them, whatever its narrow fields hold
pub length-eight : (l : DvbBinaryLocator) → Ruled l → OneOf lengths (locator_length l)
unfolding locator_length
length-eight l d = go l.service l.identifier l.windows l.scheduled_time_reliability d
  where
    go : (v : DvbLocatorService) (i : DvbLocatorIdentifier) (w : Windows) (r : Bool) → are_here w ≡ are_due i r → OneOf lengths (head_length + service_length v + times_length + identifier_length i + windows_length w)
    go (Triplet t) NoIdentifier None r e = inl refl
    go (Triplet t) NoIdentifier (Some w) r e = inr (inl refl)
    go (Triplet t) (EventId k) None r e = inr (inr (inl refl))
    go (Triplet t) (TvaIdEit k) None r e = inr (inr (inl refl))
    go (Triplet t) (TvaIdPes k c) None r e = inr (inr (inr (inl refl)))
    go (Full b ts on sv) NoIdentifier None r e = inr (inr (inr (inr (inl refl))))
    go (Full b ts on sv) NoIdentifier (Some w) r e = inr (inr (inr (inr (inr (inl refl)))))
    go (Full b ts on sv) (EventId k) None r e = inr (inr (inr (inr (inr (inr (inl refl))))))
    go (Full b ts on sv) (TvaIdEit k) None r e = inr (inr (inr (inr (inr (inr (inl refl))))))
    go (Full b ts on sv) (TvaIdPes k c) None r e = inr (inr (inr (inr (inr (inr (inr (inl refl)))))))
    go v (EventId k) (Some w) r e = absurd (true≢false e)
    go v (TvaIdEit k) (Some w) r e = absurd (true≢false e)
    go v (TvaIdPes k c) (Some w) r e = absurd (true≢false e)

-- so the shortest and the longest are the two ends
pub length-between : (l : DvbBinaryLocator) → Ruled l → (shortest_locator ≤ locator_length l) × (locator_length l ≤ longest_locator)
length-between l d = between (locator_length l) (length-eight l d)

pub size-eight : (xs : List ℕ) → OneOf lengths (size_at xs)
unfolding size_at
size-eight xs = go (inline h) (eqb (type_in h) 0) (reliable h) (eqb (type_in h) 3) refl refl refl refl
  where
    h : ℕ
    h = be16 xs 0

    go : (i n r p : Bool) → inline h ≡ i → eqb (type_in h) 0 ≡ n → reliable h ≡ r → eqb (type_in h) 3 ≡ p → OneOf lengths (size_at xs)
    go false true false p a b c d = simp (a, b, c) (inl refl)
    go false true true p a b c d = simp (a, b, c) (inr (inl refl))
    go false false r false a b c d = simp (a, b, d) (inr (inr (inl refl)))
    go false false r true a b c d = simp (a, b, d) (inr (inr (inr (inl refl))))
    go true true false p a b c d = simp (a, b, c) (inr (inr (inr (inr (inl refl)))))
    go true true true p a b c d = simp (a, b, c) (inr (inr (inr (inr (inr (inl refl))))))
    go true false r false a b c d = simp (a, b, d) (inr (inr (inr (inr (inr (inr (inl refl)))))))
    go true false r true a b c d = simp (a, b, d) (inr (inr (inr (inr (inr (inr (inr (inl refl))))))))

pub used-eight : (xs : List ℕ) (l : DvbBinaryLocator) (n : ℕ) → read_locator xs ≡ got_locator l n → OneOf lengths n
used-eight xs l n e = rw (got-had xs l n e).used (size-eight xs)
