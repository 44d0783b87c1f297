use Rattle.flat_sections.specs.Sections.{rnt_answer}
use borrow.Author.Rules.{rules}
use Rattle.flat_sections.proofs.RntAnswer.of.Goals as goal

pub returns-in-Ok : goal.returns-in-Ok
unfolding rnt_answer
returns-in-Ok c = rw (c.in-Ok.is, ← c.fine.ensures) c.beside.ensures

pub returns-in-Err : goal.returns-in-Err
unfolding rnt_answer
returns-in-Err c = rw (c.in-Err.is, ← c.no_resolution.ensures) c.beside-in-Err.ensures
