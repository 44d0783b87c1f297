-- What the numbers of a record stand for is the record itself, for every record: none is lost, none is told anew.
-- Assumes nothing.
use Prim.Native.Nat.{ℕ}
use mathlib.Core.Path.{◌≡◌, refl, ap}
use mathlib.Core.List.{List}
use Rattle.wire.specs.Choice.{bit}
use Rattle.link.specs.Syntax.{Link}
use Rattle.link.specs.Records.{link_of}
use Rattle.link.specs.declared.LinkFields.{LinkFields}
use Rattle.link.specs.declared.LinkInfo.{LinkInfo}
use Rattle.link_draft.specs.Checks.{uri_here, locator_here}
use Rattle.flat_locator.proofs.Back.{flag-back, locator-back}
use Rattle.flat_link.specs.Links.{uri_range, uri_of, place_flat, place_of, fields_flat, fields_of, link_flat, info_of}
use Rattle.flat_link.specs.declared.FlatLink.{FlatLink}
use Rattle.link.specs.Options.{LinkLocator, MediaUri}
use Rattle.std.specs.Prelude.{None, Some}

pub uri-back : (u : MediaUri) → uri_of (bit (uri_here u)) (uri_range u) ≡ u
uri-back None = refl
uri-back (Some r) = refl

pub place-back : (p : LinkLocator) → place_of (bit (locator_here p)) (place_flat p) ≡ p
place-back None = refl
place-back (Some l) = ap Some (locator-back l)

pub fields_back : (k : LinkFields) → fields_of (fields_flat k) ≡ k
unfolding fields_flat fields_of
fields_back k = rw (uri-back k.media_uri, place-back k.dvb_binary_locator, flag-back k.default_icon_flag) refl

pub info-back : (k : LinkInfo) → info_of (link_flat k) ≡ k
unfolding link_flat info_of
info-back k = rw (fields_back k.fields) refl

-- ---- the link that a flat record stands for, with the text that its ranges are of

abbrev pub flat_link_of : List ℕ → FlatLink → Link
flat_link_of t f = link_of t (info_of f)

-- it is the one that the library's record stands for
pub same-link : (t : List ℕ) (k : LinkInfo) → flat_link_of t (link_flat k) ≡ link_of t k
same-link t k = ap (link_of t) (info-back k)
