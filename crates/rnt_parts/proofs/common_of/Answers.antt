use Rattle.rnt_parts.specs.Parts.{common_of}
use borrow.Author.Rules.{rules}
use Rattle.rnt_parts.proofs.common_of.Goals as goal

pub returns-in-Ok : goal.returns-in-Ok
unfolding common_of
returns-in-Ok c =
    rw c.in-Ok.is

pub returns-in-Err : goal.returns-in-Err
unfolding common_of
returns-in-Err c = rw c.in-Err.is
