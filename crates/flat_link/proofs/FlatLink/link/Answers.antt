use Rattle.flat_link.specs.Links.{info_of}
use borrow.Author.Rules.{rules}
use Rattle.flat_link.proofs.FlatLink.link.Goals as goal

pub returns : goal.returns
unfolding info_of
returns c = rw c.fields.ensures
