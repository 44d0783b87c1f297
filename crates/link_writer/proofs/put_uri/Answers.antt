use Rattle.link_draft.specs.Writing.{uri_parts}
use Rattle.link_writer.proofs.Stages.{puts_none}
use borrow.Author.Rules.{rules}
use Rattle.link_writer.proofs.put_uri.Goals as goal

pub returns-in-None : goal.returns-in-None
unfolding uri_parts
returns-in-None c = rw c.in-None.is (puts_none _ _)

pub returns-in-Some : goal.returns-in-Some
unfolding uri_parts
returns-in-Some c =
    let put-headed = c.put_headed in
    let uri = c.in-Some.is in
    let length = c.length_byte.ensures in
    rw uri (rw length at put-headed.ensures)
