use Rattle.wire.proofs.Lists.{bytes-known}
use Rattle.rct_index_editor.proofs.Edits.{replace-indexed}
use Rattle.flat_link.specs.Links.{info_of}
use borrow.Author.Rules.{rules}
use Rattle.eallunsa.proofs.indexing.eallunsa_rct_index_replace.Goals as goal

pub returns : goal.returns
unfolding info_of
returns c =
    let args = c.args in
    let b = bytes-known args.b.now c.slice_known-1.given in
    let marks = rw c.fields.ensures at c.of-marks.ensures in
    let told = replace-indexed args.b.now args.number args.text.now _ args.index b _ _ c.put_over-put.ensures.value marks in
    record { value = rw (← told) c.answered.ensures; b_after = c.put_over-put.ensures.b_after }
