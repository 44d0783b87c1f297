use mathlib.Core.Path.{◌≡◌}
use native.Mathlib.Omega.{arith}
use Rattle.rct_editor.proofs.Stores.{entry-put}
use borrow.Author.Rules.{rules}
use Rattle.rct_editor.proofs.splicing.put_entry.Goals as goal

pub returns : goal.returns
returns c =
    let args = c.args in
    let pre = c.requires in
    let low = c.low in
    let to-bytes = c.to_bytes-bytes in
    let put-link = c.put_link in
    entry-put _ _ _ _ _ _ args.text.now args.link pre.0 (omega (arith, pre.1.0, pre.1.1.0)) (omega (arith, pre.1.0, pre.1.1.1)) pre.1.0 (rw low.ensures at to-bytes.ensures) c.put_at.ensures.b_after put-link.ensures
