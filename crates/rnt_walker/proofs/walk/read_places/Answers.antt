use mathlib.Core.Path.{◌≡◌, sym, ◌∙◌}
use native.Mathlib.Omega.{arith}
use Rattle.wire.proofs.Lists.{bytes-known}
use Rattle.wire.proofs.Verdicts.{reached-at, reached-refused, handed-on}
use Rattle.frame.proofs.Opening.{opened-at}
use Rattle.frame.proofs.Readings.{reading-closed, reading-rows}
use Rattle.rnt.specs.Syntax.{rnt}
use Rattle.rnt.specs.Reading.{payload_verdict}
use Rattle.rnt_walker.proofs.Walks.{refused-walked}
use borrow.Author.Rules.{rules}
use Rattle.rnt_walker.proofs.walk.read_places.Goals as goal

pub past_payload-requires : goal.past_payload-requires
past_payload-requires c =
    let args = c.args in
    let table = c.table in
    let opened = c.open in
    let s = args.s.now in
    let k = opened-at rnt _ s _ (bytes-known s c.type_inv.s) (sym (rw table.ensures at opened.ensures) ∙ c.in_ok-total.was) in
    (sym k.total, (k.large, (k.within, omega (arith, k.short))))

pub returns : goal.returns
returns c =
    let table = c.table in
    let opened-at = c.open in
    let args = c.args in
    let g = reached-at _ _ _ (sym (rw table.ensures at opened-at.ensures) ∙ c.in_ok-total.was) in
    rw (← reading-rows rnt payload_verdict _ args.s.now g.0) c.past_payload.ensures

pub returns-in_err-total : goal.returns-in_err-total
returns-in_err-total c =
    let args = c.args in
    let table = c.table in
    let opened-at = c.open in
    handed-on _ _ c.from_residual.ensures ∙ refused-walked _ _ _ (reading-closed rnt payload_verdict _ args.s.now _ (reached-refused _ _ _ (sym (rw table.ensures at opened-at.ensures) ∙ c.in_err-total.was)))
