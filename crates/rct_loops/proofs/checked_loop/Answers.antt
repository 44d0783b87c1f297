use Prim.Native.Nat.{◌-◌}
use mathlib.Core.Path.{◌≡◌, sym, ap, ◌∙◌}
use native.Mathlib.Omega.{arith}
use Rattle.frame.specs.Syntax.{crc_length}
use Rattle.frame.proofs.Readings.{checked-stop, checked-said}
use Rattle.rct.specs.Syntax.{rct}
use Rattle.rct.specs.Reading.{payload_verdict}
use Rattle.rct_walker.proofs.Loops.{loop-had, loop-not, had-loop, not-loop}
use borrow.Author.Rules.{rules}
use Rattle.wire.proofs.Verdicts.{handed-on}
use Rattle.rct_loops.proofs.checked_loop.Goals as goal

pub returns : goal.returns
returns c =
    let args = c.args in
    let checked = c.checked in
    let read-loop = c.read_loop in
    let payload-end = c.payload_end in
    let check-crc = c.check_crc in
    let s = args.s.now in
    let g = loop-had _ _ _ _ _ (sym (rw checked.ensures at read-loop.ensures) ∙ c.in_ok-found.was) in
    let e = payload-end.ensures ∙ ap (λ n. n - crc_length) (sym g.total) in
    let v = checked-said rct payload_verdict s _ _ (omega arith) g.fine e check-crc.ensures ∙ c.in_ok-check_crc.was in
    had-loop _ s _ _ _ (record { fine = v; total = g.total; count = g.count; place = g.place })

pub returns-in_err-check_crc : goal.returns-in_err-check_crc
returns-in_err-check_crc c =
    let args = c.args in
    let checked = c.checked in
    let read-loop = c.read_loop in
    let payload-end = c.payload_end in
    let check-crc = c.check_crc in
    let s = args.s.now in
    let g = loop-had _ _ _ _ _ (sym (rw checked.ensures at read-loop.ensures) ∙ c.in_ok-found.was) in
    let e = payload-end.ensures ∙ ap (λ n. n - crc_length) (sym g.total) in
    handed-on _ _ c.from_residual-in_err-check_crc.ensures ∙ not-loop _ s _ (checked-said rct payload_verdict s _ _ (omega arith) g.fine e check-crc.ensures ∙ c.in_err-check_crc.was)

pub returns-in_err-found : goal.returns-in_err-found
returns-in_err-found c =
    let args = c.args in
    let checked = c.checked in
    let read-loop = c.read_loop in
    handed-on _ _ c.from_residual.ensures ∙ not-loop _ args.s.now _ (checked-stop rct payload_verdict args.s.now _ (loop-not _ _ _ (sym (rw checked.ensures at read-loop.ensures) ∙ c.in_err-found.was)))
