-- What the numbers of a record stand for is the record itself, for every record: none is lost, none is told anew.
-- Assumes nothing.
use mathlib.Core.Path.{◌≡◌, refl}
use mathlib.Core.Bool.{Bool, true, false}
use Rattle.wire.specs.Choice.{bit}
use Rattle.locator.specs.declared.DvbBinaryLocator.{DvbBinaryLocator}
use Rattle.locator.specs.declared.DvbLocatorService.{DvbLocatorService}
use Rattle.locator.specs.declared.DvbLocatorService.TheVariants.{Triplet, Full}
use Rattle.locator.specs.declared.DvbLocatorIdentifier.{DvbLocatorIdentifier}
use Rattle.locator.specs.declared.DvbLocatorIdentifier.TheVariants.{None as NoIdentifier, EventId, TvaIdEit, TvaIdPes}
use Rattle.flat_locator.specs.Flags.{is_set}
use Rattle.flat_locator.specs.Locators.{service_flat, service_of, identifier_flat, identifier_of, windows_flat, windows_of, locator_flat, locator_of}
use Rattle.locator.specs.Windows.{Windows}
use Rattle.std.specs.Prelude.{None, Some}

pub flag-back : (b : Bool) → is_set (bit b) ≡ b
flag-back true = refl
flag-back false = refl

pub service-back : (s : DvbLocatorService) → service_of (service_flat s) ≡ s
service-back (Triplet t) = refl
service-back (Full r ts on sv) = refl

pub identifier-back : (i : DvbLocatorIdentifier) → identifier_of (identifier_flat i) ≡ i
identifier-back NoIdentifier = refl
identifier-back (EventId e) = refl
identifier-back (TvaIdEit t) = refl
identifier-back (TvaIdPes t c) = refl

pub windows-back : (w : Windows) → windows_of (windows_flat w) ≡ w
windows-back None = refl
windows-back (Some w) = refl

pub locator-back : (l : DvbBinaryLocator) → locator_of (locator_flat l) ≡ l
unfolding locator_flat locator_of
locator-back l = rw (flag-back l.scheduled_time_reliability, service-back l.service, identifier-back l.identifier, windows-back l.windows) refl
