use Rattle.link_draft.specs.Writing.{front_parts}
use Rattle.link_writer.proofs.Stages.{puts_then}
use borrow.Author.Rules.{rules}
use Rattle.link_writer.proofs.put_front.Goals as goal

pub returns : goal.returns
unfolding front_parts
returns c =
    let put-next2 = c.put_next in
    let bytes = c.head_bytes-head.ensures in
    let byte = c.count_byte.ensures in
    let head = c.put_next-uri_at.ensures in
    let uri = c.put_uri-locator_at.ensures in
    let locator = c.put_locator-count_at.ensures in
    puts_then (rw bytes at head) (puts_then uri (puts_then locator (rw byte at put-next2.ensures)))
