-- What is told of a link's record is what is told of the link that it stands for, be it handed in or read.
-- Assumes nothing.
use Prim.Native.Nat.{ℕ, ◌+◌}
use mathlib.Core.Path.{◌≡◌, refl}
use mathlib.Core.Bool.{Bool, true, false}
use mathlib.Core.List.{List}
use mathlib.Core.Option.{none, some}
use Rattle.wire.specs.Choice.{pick}
use lib.ListN.{get_or}
use Rattle.link.specs.Syntax.{Link, LinkFits, here, head_length, uri_due, locator_due}
use Rattle.link.specs.Reading.{type_at, uri_start, locator_got, locator_in, link_at}
use Rattle.link.specs.Records as records
use Rattle.link.specs.Records.{link_of, fields_at}
use Rattle.link.specs.declared.LinkInfo.{LinkInfo}
use Rattle.link.specs.declared.Range.{Range}
use Rattle.link_draft.specs.Checks.{uri_here, locator_here}
use Rattle.link_draft.proofs.Exact.{uri-here, locator-here}
use Rattle.rct_index.specs.Index.{link_marks, marks_in}
use Rattle.locator.specs.declared.reading.LocatorRead.{LocatorRead}
use Rattle.std.specs.Prelude.{Err, None, Ok, Result, Some}
use Rattle.wire.specs.declared.verdict.Refusal.{Refusal}

-- ---- handed in, with any text

pub record-marks : (t : List ℕ) (k : LinkInfo) → link_marks (link_of t k) ≡ marks_in k.fields
unfolding link_marks link_of marks_in
record-marks t k = rw (uri-here t k.fields.media_uri, locator-here k.fields.dvb_binary_locator)

-- ---- by the link's type: of a link that fits URI and locator are there exactly if its type has them

pub record Due (l : Link) : Type 0 where
  pub uri : (link_marks l).uri ≡ uri_due l.link_type
  pub locator : (link_marks l).locator ≡ locator_due l.link_type
  pub icon : (link_marks l).icon ≡ l.default_icon

pub marks-due : (l : Link) → LinkFits l → Due l
unfolding link_marks
marks-due l f = record { uri = f.uri_here; locator = f.locator_here; icon = refl }

-- ---- read from a body

uri-read : (b : Bool) (part : List ℕ) (r : Range) → here (pick b (some part) none) ≡ uri_here (pick b (Some r) None)
uri-read true part r = refl
uri-read false part r = refl

locator-read : (b : Bool) (l : Result LocatorRead Refusal) → here (pick b (locator_got l) none) ≡ locator_here (pick b (records.locator_held l) None)
locator-read true (Ok got) = refl
locator-read true (Err r) = refl
locator-read false l = refl

pub read-marks : (base r : ℕ) (xs : List ℕ) → link_marks (link_at r xs) ≡ marks_in (fields_at base r xs)
unfolding link_marks link_at marks_in fields_at
read-marks base r xs = rw (uri-read (uri_due (type_at xs)) _ (record { start = base + uri_start; length = get_or xs head_length 0 }), locator-read (locator_due (type_at xs)) (locator_in xs))
