use Rattle.flat_link.specs.Links.{fields_of}
use borrow.Author.Rules.{rules}
use Rattle.flat_link.proofs.FlatFields.fields.Goals as goal

pub returns : goal.returns
unfolding fields_of
returns c = rw (c.uri_of.ensures, c.place_of.ensures, c.is_set.ensures)
