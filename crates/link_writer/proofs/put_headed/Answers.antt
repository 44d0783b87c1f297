use Rattle.link_draft.specs.Writing.{range_in}
use Rattle.link_writer.proofs.Stages.{puts_then}
use borrow.Author.Rules.{rules}
use Rattle.link_writer.proofs.put_headed.Goals as goal

pub returns : goal.returns
unfolding range_in
returns c =
    let put-next2 = c.put_next in
    let head = c.put_next-range_at.ensures in
    let range = c.handed-part.ensures.result_value in
    puts_then head (rw range at put-next2.ensures)
