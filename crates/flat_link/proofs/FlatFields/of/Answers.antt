use Rattle.flat_link.specs.Links.{fields_flat}
use borrow.Author.Rules.{rules}
use Rattle.flat_link.proofs.FlatFields.of.Goals as goal

pub returns : goal.returns
unfolding fields_flat
returns c = rw (c.flag.ensures.0, c.uri_here.ensures, c.uri_range.ensures, c.flag-2.ensures.0, c.locator_here.ensures, c.place_flat.ensures, c.flag-3.ensures.0)
