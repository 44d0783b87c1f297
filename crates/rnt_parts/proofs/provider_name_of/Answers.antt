use Rattle.rnt_parts.specs.Parts.{provider_name_of}
use borrow.Author.Rules.{rules}
use Rattle.rnt_parts.proofs.provider_name_of.Goals as goal

pub returns-in-Ok : goal.returns-in-Ok
unfolding provider_name_of
returns-in-Ok c =
    rw c.in-Ok.is

pub returns-in-Err : goal.returns-in-Err
unfolding provider_name_of
returns-in-Err c = rw c.in-Err.is
