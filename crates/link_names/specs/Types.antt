-- The link types (ETSI TS 102 323, Table 111): 0 to 3 have a name, and from 4 up to the widest number they are reserved.
-- Assumes nothing.
use Rattle.std.specs.Prelude.{ℕ, eqb, leb, None, Option, Some}
use Rattle.wire.specs.Choice.{pick}
use Rattle.field.specs.Fields.{link_type}
use Rattle.link_names.specs.Numbers.{from-to, only}
use Rattle.link_names.specs.declared.Numbers.{Numbers}
use Rattle.link_names.specs.declared.link_type.LinkType.{LinkType}
use Rattle.link_names.specs.declared.link_type.LinkType.TheVariants.{UriString, BinaryLocator, Both, Descriptor, DvbReserved}

-- all numbers of a type's class
abbrev pub type_numbers : LinkType → Numbers
type_numbers UriString = only 0
type_numbers BinaryLocator = only 1
type_numbers Both = only 2
type_numbers Descriptor = only 3
type_numbers (DvbReserved n) = from-to 4 link_type.widest

-- the number of a type: a reserved one carries it
abbrev pub type_number : LinkType → ℕ
type_number UriString = (type_numbers UriString).first
type_number BinaryLocator = (type_numbers BinaryLocator).first
type_number Both = (type_numbers Both).first
type_number Descriptor = (type_numbers Descriptor).first
type_number (DvbReserved n) = n

-- the type of a number, and nothing where the field does not hold it
abbrev pub type_of : ℕ → Option LinkType
type_of n =
    pick (eqb n (type_number UriString)) (Some UriString)
    (pick (eqb n (type_number BinaryLocator)) (Some BinaryLocator)
    (pick (eqb n (type_number Both)) (Some Both)
    (pick (eqb n (type_number Descriptor)) (Some Descriptor)
    (pick (leb n link_type.widest) (Some (DvbReserved n)) None))))
