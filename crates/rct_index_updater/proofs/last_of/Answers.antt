use Rattle.rct_index_updater.specs.Bringing.{last_of}
use borrow.Author.Rules.{rules}
use Rattle.rct_index_updater.proofs.last_of.Goals as goal

pub returns-in-Ok : goal.returns-in-Ok
unfolding last_of
returns-in-Ok c = rw c.in-Ok.is

pub returns-in-Err : goal.returns-in-Err
unfolding last_of
returns-in-Err c = rw c.in-Err.is
