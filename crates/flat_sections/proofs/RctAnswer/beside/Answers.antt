use Rattle.flat_sections.specs.Sections.{rct_numbers}
use borrow.Author.Rules.{rules}
use Rattle.flat_sections.proofs.RctAnswer.beside.Goals as goal

pub returns : goal.returns
unfolding rct_numbers
returns c = rw c.of.ensures
