use Rattle.flat_link.specs.Links.{link_flat}
use borrow.Author.Rules.{rules}
use Rattle.flat_link.proofs.FlatLink.of.Goals as goal

pub returns : goal.returns
unfolding link_flat
returns c = rw c.of.ensures
