use Rattle.rct_parts.specs.Parts.{body_span_of}
use borrow.Author.Rules.{rules}
use Rattle.rct_parts.proofs.body_span_of.Goals as goal

pub returns-in-Ok : goal.returns-in-Ok
unfolding body_span_of
returns-in-Ok c = rw c.in-Ok.is

pub returns-in-Err : goal.returns-in-Err
unfolding body_span_of
returns-in-Err c = rw c.in-Err.is
