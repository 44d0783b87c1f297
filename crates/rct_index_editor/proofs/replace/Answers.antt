use Rattle.wire.proofs.Lists.{bytes-known}
use Rattle.rct_index_editor.proofs.Edits.{replace-indexed}
use borrow.Author.Rules.{rules}
use Rattle.rct_index_editor.proofs.replace.Goals as goal

pub returns : goal.returns
returns c =
    let args = c.args in
    let b = bytes-known args.b.now c.slice_known-1.given in
    let marks = c.of-marks in
    let told = replace-indexed args.b.now args.number args.text.now args.link args.index b _ _ c.replace_placed-put.ensures.value marks.ensures in
    record { value = rw (c.edited.ensures, c.bring_up.ensures) told; b_after = c.replace_placed-put.ensures.b_after }
