use Rattle.flat_refusal.specs.Refusals.{refusal_of}
use borrow.Author.Rules.{rules}
use Rattle.flat_refusal.proofs.refusal_of.Goals as goal

pub returns-in-Ok : goal.returns-in-Ok
unfolding refusal_of
returns-in-Ok c = rw c.in-Ok.is c.fine.ensures

pub returns-in-Err : goal.returns-in-Err
unfolding refusal_of
returns-in-Err c = rw c.in-Err.is
