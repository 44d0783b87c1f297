use Prim.Native.Nat.{◌-◌}
use mathlib.Core.Path.{sym, ap, ◌∙◌}
use native.Mathlib.Omega.{arith}
use lib.Seq.{length-take-le}
use Rattle.wire.proofs.Lists.{bytes-known}
use Rattle.wire.proofs.Verdicts.{reached-refused, handed-on}
use Rattle.frame.specs.Syntax.{crc_length}
use Rattle.frame.proofs.Opening.{opened-at}
use Rattle.frame.proofs.Readings.{reading-closed}
use Rattle.rct.specs.Syntax.{rct}
use Rattle.rct.specs.Reading.{payload_verdict}
use Rattle.rct_walker.proofs.Walks.{refused-walked}
use Rattle.rct_walker.proofs.Payloads.{room, walked-is}
use Rattle.rct_walker.proofs.walk.read_places.Goals as goal

pub slice_bounds-past_payload-end : goal.slice_bounds-past_payload-end
slice_bounds-past_payload-end c =
    let opening = c.open in
    let s = c.args.s.now in
    let k = opened-at rct _ s _ (bytes-known s c.type_inv.s) (sym (rw c.table.ensures at opening.ensures) ∙ c.in_ok-total.was) in
    sym (length-take-le _ s (omega (arith, k.within, c.payload_end-end.ensures)))

pub past_payload-requires : goal.past_payload-requires
past_payload-requires c =
    let opening = c.open in
    let s = c.args.s.now in
    let k = opened-at rct _ s _ (bytes-known s c.type_inv.s) (sym (rw c.table.ensures at opening.ensures) ∙ c.in_ok-total.was) in
    let e = c.payload_end-end.ensures ∙ ap (λ n. n - crc_length) (sym k.total) in
    rw e (room _ s _ k)

pub returns : goal.returns
returns c =
    let opening = c.open in
    let s = c.args.s.now in
    let k = opened-at rct _ s _ (bytes-known s c.type_inv.s) (sym (rw c.table.ensures at opening.ensures) ∙ c.in_ok-total.was) in
    let e = c.payload_end-end.ensures ∙ ap (λ n. n - crc_length) (sym k.total) in
    c.past_payload.ensures ∙ rw e (walked-is _ s _ k c.args.number)

pub returns-in_err-total : goal.returns-in_err-total
returns-in_err-total c =
    let opening = c.open in
    handed-on _ _ c.from_residual.ensures ∙ refused-walked _ _ _ (reading-closed rct payload_verdict _ c.args.s.now _ (reached-refused _ _ _ (sym (rw c.table.ensures at opening.ensures) ∙ c.in_err-total.was)))
