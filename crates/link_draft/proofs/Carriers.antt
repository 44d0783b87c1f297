-- What a function knows of a record that it is handed, as the types have it, in the words of specs/Carried. At a need of a
-- function with a record `link`, the premise is in `c.good`.
-- Assumes nothing.
use mathlib.Core.Path.{◌≡◌}
use mathlib.Core.List.{List, [], ◌∷◌}
use lib.ListN.{length}
use mir.Val.{Val}
use denote.Array.{each}
use denote.Laws.{Is}
use denote.Shadow.{shadow}
use denote.Struct.Declared as struct
use denote.RattleType.{RattleType}
use denote.Enum.Declared as enum
use Rattle.field.specs.Fields.{number_items}
use Rattle.locator.specs.Syntax as syntax
use Rattle.locator.specs.declared.DvbBinaryLocator.{DvbBinaryLocator}
use Rattle.locator.specs.declared.DvbLocatorService.{DvbLocatorService}
use Rattle.locator.specs.declared.DvbLocatorService.TheVariants.{Triplet, Full}
use Rattle.locator.specs.declared.DvbLocatorIdentifier.{DvbLocatorIdentifier}
use Rattle.locator.specs.declared.DvbLocatorIdentifier.TheVariants.{None as NoIdentifier, EventId, TvaIdEit, TvaIdPes}
use Rattle.locator.specs.contracts.DvbBinaryLocator as locator-type
use Rattle.locator.specs.contracts.DvbLocatorService as service-type
use Rattle.locator.specs.contracts.DvbLocatorIdentifier as identifier-type
use Rattle.link.specs.declared.LinkItem.{LinkItem}
use Rattle.link.specs.declared.LinkFields.{LinkFields}
use Rattle.link.specs.declared.LinkInfo.{LinkInfo}
use Rattle.link.specs.contracts.LinkItem as item-type
use Rattle.std.specs.contracts.option.Option as option-type
use Rattle.link.specs.contracts.LinkFields as fields-type
use Rattle.link.specs.contracts.LinkInfo as link-type
use Rattle.link_draft.specs.Carried.{Each, ItemCarried, LocatorCarried, Carried}
use Rattle.link.specs.Options.{LinkLocator}
use Rattle.std.specs.Prelude.{None, Some}

item : (i : LinkItem) (vs : List Val) → Is (struct.row item-type.the_type) i vs → ItemCarried i
item i vs g = let l = g.1.1.0.1.1 in record { first = l.0.1; second = l.1.0.1; third = l.1.1.0.1 }

-- an array's elements stand in the row of their type
abbrev element : RattleType
element = struct.row item-type.the_type

items : (is : List LinkItem) (vs : List Val) → shadow (each element.Denot element.own_val is vs) → Each ItemCarried is
items [] vs g = tt
items (i ∷ is) [] g = absurd g
items (i ∷ is) (v ∷ vs) g = (item i _ g.0, items is vs g.1)

service : (v : DvbLocatorService) (vs : List Val) → Is (enum.row service-type.the_type) v vs → syntax.ServiceCarried v
service (Triplet t) vs g = tt
service (Full r ts on sv) vs g = let f = g.1.1.1.1.1 in (f.0.1, f.1.0.1, f.1.1.0.1)

identifier : (i : DvbLocatorIdentifier) (vs : List Val) → Is (enum.row identifier-type.the_type) i vs → syntax.IdentifierCarried i
identifier NoIdentifier vs g = tt
identifier (EventId e) vs g = g.1.1.1.1.0.1
identifier (TvaIdEit t) vs g = g.1.1.1.1.0.1
identifier (TvaIdPes t c) vs g = let f = g.1.1.1.1 in (f.0.1, f.1.0.1)

locator : (l : DvbBinaryLocator) (vs : List Val) → Is (struct.row locator-type.the_type) l vs → syntax.Carried l
locator l vs g =
    let f = g.1.1.1.1.1 in
    record {
      start = f.1.0.1;
      duration = f.1.1.0.1;
      service = service l.service _ f.0;
      identifier = identifier l.identifier _ f.1.1.1.0;
    }

link-locator : (m : LinkLocator) (vs : List Val) → Is (option-type.the_row locator-type.the_row) m vs → LocatorCarried m
link-locator None vs g = tt
link-locator (Some l) vs g = locator l _ g.1.1.1.1.0

-- of the fields the ninth
fields : (f : LinkFields) (vs : List Val) → Is (struct.row fields-type.the_type) f vs → LocatorCarried f.dvb_binary_locator
fields f vs g = let behind-precedence = g.1.1.1.1.1.1.1.1.1 in link-locator f.dvb_binary_locator _ behind-precedence.1.0

-- the record has as many items as it can, those that count and those that mean nothing
pub array-length : (k : LinkInfo) (vs : List Val) → Is (struct.row link-type.the_type) k vs → length k.items ≡ number_items.widest
array-length k vs g = let f = g.1.1 in f.1.0.1.0.1

pub carried : (k : LinkInfo) (vs : List Val) → Is (struct.row link-type.the_type) k vs → Carried k
carried k vs g = let f = g.1.1 in record { locator = fields k.fields _ f.0; items = items k.items _ f.1.0.1.1 }
