-- The schemes of how_related by number: the table as the standard prints it, the way from a number to its scheme and back, and that the
-- classes part the numbers of the field among them.
-- Assumes nothing.
use Prim.Native.Nat.{ℕ, zero, suc, ◌≤◌, ◌<◌}
use mathlib.Core.Path.{◌≡◌, refl, sym, ap, ◌∙◌}
use mathlib.Core.Bool.{Bool, true, false}
use native.Mathlib.Omega.{arith}
use lib.Dec.{leb}
use borrow.Author.Tests.{ne_eqb, le-leb, lt-leb, leb-true, leb-false}
use Rattle.wire.specs.Choice.{pick}
use Rattle.field.specs.Fields.{how_related}
use Rattle.link_names.specs.Numbers.{from-to, Among}
use Rattle.scheme_names.specs.Schemes.{scheme_number, scheme_numbers, scheme_of}
use Rattle.link_names.proofs.Among.{only-among}
use Rattle.link_names.specs.declared.Numbers.{Numbers}
use Rattle.scheme_names.specs.declared.HowRelated.{HowRelated}
use Rattle.scheme_names.specs.declared.HowRelated.TheVariants.{Cs2004, Cs2005, Cs2007, DvbReserved, UserPrivate}
use Rattle.std.specs.Prelude.{None, Option, Some}

-- ---- the table, number by number

pub record SchemeTable : Type 0 where
  pub of_2004 : scheme_of 0 ≡ Some Cs2004
  pub of_2005 : scheme_of 1 ≡ Some Cs2005
  pub of_2007 : scheme_of 2 ≡ Some Cs2007
  pub reserved : (n : ℕ) → 3 ≤ n → n ≤ 47 → scheme_of n ≡ Some (DvbReserved n)
  pub private : (n : ℕ) → 48 ≤ n → n ≤ 63 → scheme_of n ≡ Some (UserPrivate n)
  pub others : (n : ℕ) → 64 ≤ n → scheme_of n ≡ None

abbrev above : ℕ → Option HowRelated
above n = pick (leb n 63) (Some (UserPrivate n)) None

unnamed : (n : ℕ) → 3 ≤ n → scheme_of n ≡ pick (leb n 47) (Some (DvbReserved n)) (above n)
unnamed n h = simp (ne_eqb n 0 (λ e. omega arith), ne_eqb n 1 (λ e. omega arith), ne_eqb n 2 (λ e. omega arith))

pub scheme-table : SchemeTable
scheme-table =
    record {
      of_2004 = refl;
      of_2005 = refl;
      of_2007 = refl;
      reserved = λ n h l. unnamed n h ∙ simp (le-leb n 47 l);
      private = λ n h l. unnamed n (omega arith) ∙ simp (lt-leb n 47 (omega arith), le-leb n 63 l);
      others = λ n h. unnamed n (omega arith) ∙ simp (lt-leb n 47 (omega arith), lt-leb n 63 (omega arith));
    }

-- ---- from a number to its scheme and back

-- what a scheme says of itself is true of a number: that it is its own, and that it is one of its class
pub record SchemeHas (n : ℕ) (h : HowRelated) : Type 0 where
  pub number : scheme_number h ≡ n
  pub among : Among n (scheme_numbers h)

abbrev Holds : ℕ → Option HowRelated → Type 0
Holds n (Some h) = SchemeHas n h
Holds n None = 63 < n

holds : (n : ℕ) → Holds n (scheme_of n)
holds zero = record { number = refl; among = (omega arith, omega arith) }
holds (suc zero) = record { number = refl; among = (omega arith, omega arith) }
holds (suc (suc zero)) = record { number = refl; among = (omega arith, omega arith) }
holds (suc (suc (suc k))) = rw (unnamed n (omega arith)) (go (leb n 47) refl)
  where
    n : ℕ
    n = suc (suc (suc k))

    up : (b : Bool) → 47 < n → leb n 63 ≡ b → Holds n (pick b (Some (UserPrivate n)) None)
    up true l e = record { number = refl; among = (l, leb-true n 63 e) }
    up false l e = leb-false n 63 e

    go : (b : Bool) → leb n 47 ≡ b → Holds n (pick b (Some (DvbReserved n)) (above n))
    go true e = record { number = refl; among = (omega arith, leb-true n 47 e) }
    go false e = up (leb n 63) (leb-false n 47 e) refl

pub scheme-has : (n : ℕ) (h : HowRelated) → scheme_of n ≡ Some h → SchemeHas n h
scheme-has n h e = rw e at (holds n)

pub scheme-back : (h : HowRelated) → Among (scheme_number h) (scheme_numbers h) → scheme_of (scheme_number h) ≡ Some h
scheme-back Cs2004 m = refl
scheme-back Cs2005 m = refl
scheme-back Cs2007 m = refl
scheme-back (DvbReserved n) m = scheme-table.reserved n m.0 m.1
scheme-back (UserPrivate n) m = scheme-table.private n m.0 m.1

-- ---- the classes part the numbers among them

-- the numbers of a number's class, and none where it has no class
abbrev numbers_of : Option HowRelated → Numbers
numbers_of (Some h) = scheme_numbers h
numbers_of None = from-to 1 0

abbrev numbers_at : ℕ → Numbers
numbers_at n = numbers_of (scheme_of n)

-- a number among those of a class has that class
pub scheme-among : (n : ℕ) (h : HowRelated) → Among n (scheme_numbers h) → numbers_at n ≡ scheme_numbers h
scheme-among n Cs2004 m = only-among numbers_at n 0 m
scheme-among n Cs2005 m = only-among numbers_at n 1 m
scheme-among n Cs2007 m = only-among numbers_at n 2 m
scheme-among n (DvbReserved k) m = ap numbers_of (scheme-table.reserved n m.0 m.1)
scheme-among n (UserPrivate k) m = ap numbers_of (scheme-table.private n m.0 m.1)

pub schemes-apart : (n : ℕ) (h k : HowRelated) → Among n (scheme_numbers h) → Among n (scheme_numbers k) → scheme_numbers h ≡ scheme_numbers k
schemes-apart n h k l m = sym (scheme-among n h l) ∙ scheme-among n k m

pub record Classed (n : ℕ) : Type 0 where
  pub scheme : HowRelated
  pub known : scheme_of n ≡ Some scheme

pub schemes-cover : (n : ℕ) → n ≤ how_related.widest → Classed n
schemes-cover n h = go (scheme_of n) refl
  where
    go : (r : Option HowRelated) → scheme_of n ≡ r → Classed n
    go (Some s) e = record { scheme = s; known = e }
    go None e = let over : 63 < n = rw e at (holds n) in absurd (omega (arith, over))
