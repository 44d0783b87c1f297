use Rattle.rnt_authority_parts.specs.Parts.{authority_name_of}
use borrow.Author.Rules.{rules}
use Rattle.rnt_authority_parts.proofs.authority_name_of.Goals as goal

pub returns-in-Ok : goal.returns-in-Ok
unfolding authority_name_of
returns-in-Ok c =
    rw c.in-Ok.is

pub returns-in-Err : goal.returns-in-Err
unfolding authority_name_of
returns-in-Err c = rw c.in-Err.is
