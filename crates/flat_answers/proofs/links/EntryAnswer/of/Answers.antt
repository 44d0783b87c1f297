use Rattle.flat_answers.specs.Links.{entry_answer}
use borrow.Author.Rules.{rules}
use Rattle.flat_answers.proofs.links.EntryAnswer.of.Goals as goal

pub returns-in-Ok : goal.returns-in-Ok
unfolding entry_answer
returns-in-Ok c = rw (c.in-Ok.is, c.fine.ensures, c.of.ensures)

pub returns-in-Err : goal.returns-in-Err
unfolding entry_answer
returns-in-Err c = rw (c.in-Err.is, c.of-in-Err.ensures, c.none.ensures)
