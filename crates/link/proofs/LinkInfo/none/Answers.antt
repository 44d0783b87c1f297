use Rattle.link.specs.Records.{no_link}
use borrow.Author.Rules.{rules}
use Rattle.link.proofs.LinkInfo.none.Goals as goal

pub returns : goal.returns
unfolding no_link
returns c = simp (c.none-none.ensures, c.none-fields.ensures)
