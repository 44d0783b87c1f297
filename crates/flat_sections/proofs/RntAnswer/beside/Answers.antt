use Rattle.flat_sections.specs.Sections.{rnt_numbers}
use borrow.Author.Rules.{rules}
use Rattle.flat_sections.proofs.RntAnswer.beside.Goals as goal

pub returns : goal.returns
unfolding rnt_numbers
returns c = rw c.of.ensures
