use Rattle.flat_sections.specs.Sections.{rct_answer}
use borrow.Author.Rules.{rules}
use Rattle.flat_sections.proofs.RctAnswer.of.Goals as goal

pub returns-in-Ok : goal.returns-in-Ok
unfolding rct_answer
returns-in-Ok c = rw (c.in-Ok.is, ← c.fine.ensures) c.beside.ensures

pub returns-in-Err : goal.returns-in-Err
unfolding rct_answer
returns-in-Err c = rw (c.in-Err.is, ← c.no_related.ensures) c.beside-in-Err.ensures
