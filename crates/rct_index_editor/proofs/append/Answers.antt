use Rattle.wire.proofs.Lists.{bytes-known}
use Rattle.rct_index_editor.proofs.Edits.{append-indexed}
use borrow.Author.Rules.{rules}
use Rattle.rct_index_editor.proofs.append.Goals as goal

pub returns : goal.returns
returns c =
    let args = c.args in
    let b = bytes-known args.b.now c.slice_known-1.given in
    let marks = c.of-marks in
    let told = append-indexed args.b.now args.text.now args.link args.index b _ _ c.append_placed-put.ensures.value marks.ensures in
    record { value = rw (c.edited.ensures, c.bring_up.ensures, c.last_of.ensures) told; b_after = c.append_placed-put.ensures.b_after }
