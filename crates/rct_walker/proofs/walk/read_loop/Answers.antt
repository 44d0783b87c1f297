use Prim.Native.Nat.{◌-◌, ◌≤◌}
use mathlib.Core.Path.{sym, ap, ◌∙◌}
use native.Mathlib.Omega.{arith}
use lib.ListN.{take}
use lib.Seq.{length-take-le}
use Rattle.wire.proofs.Lists.{bytes-known}
use Rattle.wire.proofs.Verdicts.{reached-at, reached-refused, handed-on}
use Rattle.frame.specs.Syntax.{crc_length}
use Rattle.frame.proofs.Opening.{opened-at}
use Rattle.frame.proofs.Readings.{reading-closed}
use Rattle.rct.specs.Syntax.{head_length, rct}
use Rattle.rct.specs.Reading.{payload_verdict}
use Rattle.rct_blocks.specs.Ends.{end_of}
use Rattle.rct_walker.proofs.Loops.{had-loop, not-loop}
use Rattle.rct_walker.proofs.Payloads.{room, rest-is, loop-stands}
use Rattle.rct_walker.proofs.walk.read_loop.Goals as goal

pub bounds-s-10 : goal.bounds-s-10
bounds-s-10 c =
    let opening = c.open in
    let s = c.args.s.now in
    let k = opened-at rct _ s _ (bytes-known s c.type_inv.s) (sym (rw c.table.ensures at opening.ensures) ∙ c.in_ok-total.was) in
    omega (arith, k.large, k.within)

pub slice_bounds-past_rest-end : goal.slice_bounds-past_rest-end
slice_bounds-past_rest-end c =
    let opening = c.open in
    let s = c.args.s.now in
    let k = opened-at rct _ s _ (bytes-known s c.type_inv.s) (sym (rw c.table.ensures at opening.ensures) ∙ c.in_ok-total.was) in
    sym (length-take-le _ s (omega (arith, k.within, c.payload_end-end.ensures)))

pub past_rest-requires : goal.past_rest-requires
past_rest-requires c =
    let opening = c.open in
    let s = c.args.s.now in
    let k = opened-at rct _ s _ (bytes-known s c.type_inv.s) (sym (rw c.table.ensures at opening.ensures) ∙ c.in_ok-total.was) in
    let payload-end = c.payload_end-end in
    let e = payload-end.ensures ∙ ap (λ n. n - crc_length) (sym k.total) in
    let h : head_length ≤ end_of (take payload-end.result s) = rw e (room _ s _ k) in
    h

pub returns : goal.returns
returns c =
    let opening = c.open in
    let wide = c.wide-links in
    let past-rest = c.past_rest in
    let s = c.args.s.now in
    let k = opened-at rct _ s _ (bytes-known s c.type_inv.s) (sym (rw c.table.ensures at opening.ensures) ∙ c.in_ok-total.was) in
    let e = c.payload_end-end.ensures ∙ ap (λ n. n - crc_length) (sym k.total) in
    let h = reached-at _ _ _ (sym (rw (e, wide.ensures.0) at past-rest.ensures) ∙ c.in_ok-loop_at.was) in
    let v = sym (rest-is _ s _ k) ∙ h.0 in
    had-loop _ s _ _ _ (record { fine = v; total = k.total; count = sym wide.ensures.0; place = sym (loop-stands _ s _ k v) ∙ h.1 })

pub returns-in_err-loop_at : goal.returns-in_err-loop_at
returns-in_err-loop_at c =
    let opening = c.open in
    let wide = c.wide-links in
    let past-rest = c.past_rest in
    let s = c.args.s.now in
    let k = opened-at rct _ s _ (bytes-known s c.type_inv.s) (sym (rw c.table.ensures at opening.ensures) ∙ c.in_ok-total.was) in
    let e = c.payload_end-end.ensures ∙ ap (λ n. n - crc_length) (sym k.total) in
    let h = reached-refused _ _ _ (sym (rw (e, wide.ensures.0) at past-rest.ensures) ∙ c.in_err-loop_at.was) in
    handed-on _ _ c.from_residual-in_err-loop_at.ensures ∙ not-loop _ s _ (sym (rest-is _ s _ k) ∙ h)

pub returns-in_err-total : goal.returns-in_err-total
returns-in_err-total c =
    let opening = c.open in
    let s = c.args.s.now in
    handed-on _ _ c.from_residual.ensures ∙ not-loop _ s _ (reading-closed rct payload_verdict _ s _ (reached-refused _ _ _ (sym (rw c.table.ensures at opening.ensures) ∙ c.in_err-total.was)))
