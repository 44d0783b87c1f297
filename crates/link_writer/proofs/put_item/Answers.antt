use Rattle.link_draft.specs.Writing.{item_parts}
use borrow.Author.Rules.{rules}
use Rattle.link_writer.proofs.put_item.Goals as goal

pub returns : goal.returns
unfolding item_parts
returns c =
    let put-headed = c.put_headed in
    let length = c.length_byte-length.ensures in
    rw length at put-headed.ensures
