use Prim.Native.Nat.{◌-◌}
use mathlib.Core.Path.{sym, ap, ◌∙◌}
use native.Mathlib.Omega.{arith}
use lib.Seq.{length-take-le}
use Rattle.wire.proofs.Lists.{bytes-known}
use Rattle.wire.proofs.Verdicts.{handed-on, reached-refused}
use Rattle.frame.specs.Syntax.{crc_length}
use Rattle.frame.proofs.Opening.{opened-at}
use Rattle.rct.specs.Syntax.{rct}
use Rattle.rct_index.specs.Building.{building}
use Rattle.rct_indexer.proofs.Walks.{refused-built}
use Rattle.rct_indexer.proofs.Sections.{closed, short, built-is}
use borrow.Author.Rules.{rules}
use Rattle.rct_indexer.proofs.build_index.Goals as goal

pub slice_bounds-index_payload-end : goal.slice_bounds-index_payload-end
slice_bounds-index_payload-end c =
    let args = c.args in
    let table = c.table in
    let plain = c.plain in
    let opening = c.open in
    let s = args.s.now in
    let k = opened-at rct _ s _ (bytes-known s c.type_inv.s) (sym (rw (table.ensures, plain.ensures) at opening.ensures) ∙ c.in_ok-total.was) in
    sym (length-take-le _ s (omega (arith, k.within, c.payload_end-end.ensures)))

pub bounds-s-10 : goal.bounds-s-10
bounds-s-10 c =
    let args = c.args in
    let table = c.table in
    let plain = c.plain in
    let opening = c.open in
    let s = args.s.now in
    let k = opened-at rct _ s _ (bytes-known s c.type_inv.s) (sym (rw (table.ensures, plain.ensures) at opening.ensures) ∙ c.in_ok-total.was) in
    omega (arith, k.large, k.within)

pub index_payload-requires : goal.index_payload-requires
index_payload-requires c =
    let args = c.args in
    let table = c.table in
    let plain = c.plain in
    let opening = c.open in
    let payload-end = c.payload_end-end in
    let s = args.s.now in
    let k = opened-at rct _ s _ (bytes-known s c.type_inv.s) (sym (rw (table.ensures, plain.ensures) at opening.ensures) ∙ c.in_ok-total.was) in
    let e = payload-end.ensures ∙ ap (λ n. n - crc_length) (sym k.total) in
    rw e (short s (bytes-known s c.type_inv.s) k.fine)

pub returns : goal.returns
returns c =
    let args = c.args in
    let table = c.table in
    let plain = c.plain in
    let opening = c.open in
    let payload-end = c.payload_end-end in
    let s = args.s.now in
    let k = opened-at rct _ s _ (bytes-known s c.type_inv.s) (sym (rw (table.ensures, plain.ensures) at opening.ensures) ∙ c.in_ok-total.was) in
    let e = payload-end.ensures ∙ ap (λ n. n - crc_length) (sym k.total) in
    c.index_payload.ensures ∙ rw e (built-is s (bytes-known s c.type_inv.s) k.fine)

pub returns-in_err-total : goal.returns-in_err-total
unfolding building
returns-in_err-total c =
    let args = c.args in
    let table = c.table in
    let plain = c.plain in
    let opening = c.open in
    handed-on _ _ c.from_residual.ensures ∙ refused-built _ _ _ (closed args.s.now _ (reached-refused _ _ _ (sym (rw (table.ensures, plain.ensures) at opening.ensures) ∙ c.in_err-total.was)))
