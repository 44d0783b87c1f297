use Rattle.rnt_authority_parts.specs.Parts.{authority_descriptors_of}
use borrow.Author.Rules.{rules}
use Rattle.rnt_authority_parts.proofs.authority_descriptors_of.Goals as goal

pub returns-in-Ok : goal.returns-in-Ok
unfolding authority_descriptors_of
returns-in-Ok c =
    rw c.in-Ok.is

pub returns-in-Err : goal.returns-in-Err
unfolding authority_descriptors_of
returns-in-Err c = rw c.in-Err.is
