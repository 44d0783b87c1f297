use mathlib.Core.Path.{sym}
use lib.Seq.{length-take-le}
use Rattle.link_draft.specs.Writing.{locator_parts}
use Rattle.link_writer.proofs.Stages.{puts_none, locator-held, locator-taken}
use borrow.Author.Rules.{rules}
use Rattle.link_writer.proofs.put_locator.Goals as goal

pub slice_bounds-bytes-end : goal.slice_bounds-bytes-end
slice_bounds-bytes-end c =
    let locator-bytes = c.locator_bytes-written in
    locator-held _ _ locator-bytes.ensures

pub slice_bounds-put_next-end : goal.slice_bounds-put_next-end
slice_bounds-put_next-end c =
    let written = c.locator_bytes-written.ensures in
    sym (length-take-le _ _ (locator-held _ _ written))

pub returns-in-None : goal.returns-in-None
unfolding locator_parts
returns-in-None c = rw c.in-None.is (puts_none _ _)

pub returns-in-Some : goal.returns-in-Some
unfolding locator_parts
returns-in-Some c =
    let put_next = c.put_next in
    let written = c.locator_bytes-written.ensures in
    let locator = c.in-Some.is in
    rw locator (rw (locator-taken _ _ written) at put_next.ensures)
