-- What a link may have or not: a URI, and a locator.
-- Assumes nothing.
use Rattle.std.specs.Prelude.{Option}
use Rattle.locator.specs.declared.DvbBinaryLocator.{DvbBinaryLocator}
use Rattle.link.specs.declared.Range.{Range}

abbrev pub MediaUri : Type 0
MediaUri = Option Range

abbrev pub LinkLocator : Type 0
LinkLocator = Option DvbBinaryLocator
