use Rattle.rct_maker.proofs.Made.{loop-put}
use borrow.Author.Rules.{rules}
use Rattle.rct_maker.proofs.put_loop.Goals as goal

pub returns : goal.returns
returns c =
    let to-bytes = c.to_bytes-bytes in
    let args = c.args in
    let pre = c.requires in
    loop-put _ _ _ _ args.text.now _ args.range pre.0 pre.1 to-bytes.ensures c.put_at.ensures.b_after c.put_at-2.ensures.b_after
