-- Link types by number: the table as the standard prints it, the way from a number to its type and back, and that the classes part the
-- numbers of the field among them.
-- Assumes nothing.
use Prim.Native.Nat.{ℕ, zero, suc, ◌≤◌, ◌<◌}
use mathlib.Core.Path.{◌≡◌, refl, sym, ap, ◌∙◌}
use mathlib.Core.Bool.{Bool, true, false}
use native.Mathlib.Omega.{arith}
use lib.Dec.{leb}
use borrow.Author.Tests.{ne_eqb, le-leb, lt-leb, leb-true, leb-false}
use Rattle.wire.specs.Choice.{pick}
use Rattle.field.specs.Fields.{link_type}
use Rattle.link.proofs.Types.{Due, due-table}
use Rattle.link_names.specs.Numbers.{from-to, Among}
use Rattle.link_names.specs.Types.{type_number, type_numbers, type_of}
use Rattle.link_names.proofs.Among.{only-among}
use Rattle.link_names.specs.declared.Numbers.{Numbers}
use Rattle.link_names.specs.declared.link_type.LinkType.{LinkType}
use Rattle.link_names.specs.declared.link_type.LinkType.TheVariants.{UriString, BinaryLocator, Both, Descriptor, DvbReserved}
use Rattle.std.specs.Prelude.{None, Option, Some}

-- ---- the table, number by number

pub record TypeTable : Type 0 where
  pub uri : type_of 0 ≡ Some UriString
  pub locator : type_of 1 ≡ Some BinaryLocator
  pub both : type_of 2 ≡ Some Both
  pub descriptor : type_of 3 ≡ Some Descriptor
  pub reserved : (n : ℕ) → 4 ≤ n → n ≤ 15 → type_of n ≡ Some (DvbReserved n)
  pub others : (n : ℕ) → 16 ≤ n → type_of n ≡ None

unnamed : (n : ℕ) → 4 ≤ n → type_of n ≡ pick (leb n 15) (Some (DvbReserved n)) None
unnamed n h = simp (ne_eqb n 0 (λ e. omega arith), ne_eqb n 1 (λ e. omega arith), ne_eqb n 2 (λ e. omega arith), ne_eqb n 3 (λ e. omega arith))

pub type-table : TypeTable
type-table =
    record {
      uri = refl;
      locator = refl;
      both = refl;
      descriptor = refl;
      reserved = λ n h l. unnamed n h ∙ simp (le-leb n 15 l);
      others = λ n h. unnamed n (omega arith) ∙ simp (lt-leb n 15 (omega arith));
    }

-- ---- from a number to its type and back

-- Table 111's names: which types have a URI, and which a locator
abbrev with_uri : LinkType → Bool
with_uri UriString = true
with_uri BinaryLocator = false
with_uri Both = true
with_uri Descriptor = false
with_uri (DvbReserved n) = false

abbrev with_locator : LinkType → Bool
with_locator UriString = false
with_locator BinaryLocator = true
with_locator Both = true
with_locator Descriptor = false
with_locator (DvbReserved n) = false

-- what a type says of itself is true of a number: that it is its own, that it is one of its class, and what links of that type have
pub record TypeHas (n : ℕ) (t : LinkType) : Type 0 where
  pub number : type_number t ≡ n
  pub among : Among n (type_numbers t)
  pub due : Due n (with_uri t) (with_locator t)

abbrev Holds : ℕ → Option LinkType → Type 0
Holds n (Some t) = TypeHas n t
Holds n None = 15 < n

holds : (n : ℕ) → Holds n (type_of n)
holds zero = record { number = refl; among = (omega arith, omega arith); due = due-table.uri }
holds (suc zero) = record { number = refl; among = (omega arith, omega arith); due = due-table.locator }
holds (suc (suc zero)) = record { number = refl; among = (omega arith, omega arith); due = due-table.both }
holds (suc (suc (suc zero))) = record { number = refl; among = (omega arith, omega arith); due = due-table.descriptor }
holds (suc (suc (suc (suc k)))) = rw (unnamed n four) (go (leb n 15) refl)
  where
    n : ℕ
    n = suc (suc (suc (suc k)))

    four : 4 ≤ n
    four = omega arith

    go : (b : Bool) → leb n 15 ≡ b → Holds n (pick b (Some (DvbReserved n)) None)
    go true e = record { number = refl; among = (four, leb-true n 15 e); due = due-table.others n four }
    go false e = leb-false n 15 e

pub type-has : (n : ℕ) (t : LinkType) → type_of n ≡ Some t → TypeHas n t
type-has n t e = rw e at (holds n)

pub type-back : (t : LinkType) → Among (type_number t) (type_numbers t) → type_of (type_number t) ≡ Some t
type-back UriString h = refl
type-back BinaryLocator h = refl
type-back Both h = refl
type-back Descriptor h = refl
type-back (DvbReserved n) h = type-table.reserved n h.0 h.1

-- ---- the classes part the numbers among them

-- the numbers of a number's class, and none where it has no class
abbrev numbers_of : Option LinkType → Numbers
numbers_of (Some t) = type_numbers t
numbers_of None = from-to 1 0

abbrev numbers_at : ℕ → Numbers
numbers_at n = numbers_of (type_of n)

-- a number among those of a class has that class
pub type-among : (n : ℕ) (t : LinkType) → Among n (type_numbers t) → numbers_at n ≡ type_numbers t
type-among n UriString h = only-among numbers_at n 0 h
type-among n BinaryLocator h = only-among numbers_at n 1 h
type-among n Both h = only-among numbers_at n 2 h
type-among n Descriptor h = only-among numbers_at n 3 h
type-among n (DvbReserved m) h = ap numbers_of (type-table.reserved n h.0 h.1)

pub types-apart : (n : ℕ) (t u : LinkType) → Among n (type_numbers t) → Among n (type_numbers u) → type_numbers t ≡ type_numbers u
types-apart n t u h k = sym (type-among n t h) ∙ type-among n u k

pub record Typed (n : ℕ) : Type 0 where
  pub type : LinkType
  pub known : type_of n ≡ Some type

pub types-cover : (n : ℕ) → n ≤ link_type.widest → Typed n
types-cover n h = go (type_of n) refl
  where
    go : (r : Option LinkType) → type_of n ≡ r → Typed n
    go (Some t) e = record { type = t; known = e }
    go None e = let above : 15 < n = rw e at (holds n) in absurd (omega (arith, above))
