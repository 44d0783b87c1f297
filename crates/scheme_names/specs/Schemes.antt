-- The classification schemes of how_related (ETSI TS 102 323, Table 112): 0, 1 and 2 are those of 2004, 2005 and 2007, the numbers
-- up to 0x2F are reserved for DVB, and those above are private to users, up to the widest number.
-- Assumes nothing.
use Rattle.std.specs.Prelude.{ℕ, eqb, leb, None, Option, Some}
use Rattle.wire.specs.Choice.{pick}
use Rattle.field.specs.Fields.{how_related}
use Rattle.link_names.specs.Numbers.{from-to, only}
use Rattle.link_names.specs.declared.Numbers.{Numbers}
use Rattle.scheme_names.specs.declared.HowRelated.{HowRelated}
use Rattle.scheme_names.specs.declared.HowRelated.TheVariants.{Cs2004, Cs2005, Cs2007, DvbReserved, UserPrivate}

-- all numbers of a scheme's class
abbrev pub scheme_numbers : HowRelated → Numbers
scheme_numbers Cs2004 = only 0
scheme_numbers Cs2005 = only 1
scheme_numbers Cs2007 = only 2
scheme_numbers (DvbReserved n) = from-to 3 0x2F
scheme_numbers (UserPrivate n) = from-to 0x30 how_related.widest

-- the number of a scheme: a reserved or private one carries it
abbrev pub scheme_number : HowRelated → ℕ
scheme_number Cs2004 = (scheme_numbers Cs2004).first
scheme_number Cs2005 = (scheme_numbers Cs2005).first
scheme_number Cs2007 = (scheme_numbers Cs2007).first
scheme_number (DvbReserved n) = n
scheme_number (UserPrivate n) = n

-- the scheme of a number, and nothing where the field does not hold it
abbrev pub scheme_of : ℕ → Option HowRelated
scheme_of n =
    pick (eqb n (scheme_number Cs2004)) (Some Cs2004)
    (pick (eqb n (scheme_number Cs2005)) (Some Cs2005)
    (pick (eqb n (scheme_number Cs2007)) (Some Cs2007)
    (pick (leb n (scheme_numbers (DvbReserved n)).last) (Some (DvbReserved n))
    (pick (leb n how_related.widest) (Some (UserPrivate n)) None))))
