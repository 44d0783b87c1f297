use Rattle.link_draft.specs.Writing.{tail_parts}
use Rattle.link_writer.proofs.Stages.{tail-head}
use borrow.Author.Rules.{rules}
use Rattle.link_writer.proofs.put_tail.Goals as goal

pub returns : goal.returns
unfolding tail_parts
returns c =
    let put-headed = c.put_headed in
    let f = c.args.fields in
    let icon = c.low-icon.ensures in
    let flag = c.flag.ensures.0 in
    let two = c.to_bytes-head.ensures in
    rw (tail-head f.default_icon_flag f.icon_id f.descriptors.length _ _ _ flag icon two) at put-headed.ensures
