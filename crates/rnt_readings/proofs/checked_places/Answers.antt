use Prim.Native.Nat.{◌-◌}
use mathlib.Core.Path.{◌≡◌, sym, ap, ◌∙◌}
use native.Mathlib.Omega.{arith}
use Rattle.frame.specs.Syntax.{crc_length}
use Rattle.frame.proofs.Readings.{checked-stop, checked-said}
use Rattle.rnt.specs.Syntax.{rnt}
use Rattle.rnt.specs.Reading.{payload_verdict}
use Rattle.rnt_walker.specs.declared.RntPlaces.{RntPlaces}
use Rattle.rnt_walker.proofs.Walks.{walked-read, walked-refused, read-walked, refused-walked}
use borrow.Author.Rules.{rules}
use Rattle.wire.proofs.Verdicts.{handed-on}
use Rattle.rnt_readings.proofs.checked_places.Goals as goal

pub returns : goal.returns
returns c =
    let checked = c.checked in
    let read-places = c.read_places in
    let payload-end = c.payload_end in
    let args = c.args in
    let check-crc = c.check_crc in
    let g = walked-read _ _ _ (sym (rw checked.ensures at read-places.ensures) ∙ c.in_ok-places.was) in
    let e = payload-end.ensures ∙ ap (λ (p : RntPlaces). p.total - crc_length) (sym g.1) in
    read-walked _ _ _ (checked-said rnt payload_verdict args.s.now _ _ (omega arith) g.0 e check-crc.ensures ∙ c.in_ok-check_crc.was) g.1

pub returns-in_err-check_crc : goal.returns-in_err-check_crc
returns-in_err-check_crc c =
    let checked = c.checked in
    let read-places = c.read_places in
    let payload-end = c.payload_end in
    let args = c.args in
    let check-crc = c.check_crc in
    let g = walked-read _ _ _ (sym (rw checked.ensures at read-places.ensures) ∙ c.in_ok-places.was) in
    let e = payload-end.ensures ∙ ap (λ (p : RntPlaces). p.total - crc_length) (sym g.1) in
    handed-on _ _ c.from_residual-in_err-check_crc.ensures ∙ refused-walked _ _ _ (checked-said rnt payload_verdict args.s.now _ _ (omega arith) g.0 e check-crc.ensures ∙ c.in_err-check_crc.was)

pub returns-in_err-places : goal.returns-in_err-places
returns-in_err-places c =
    let args = c.args in
    let checked = c.checked in
    let read-places = c.read_places in
    handed-on _ _ c.from_residual.ensures ∙ refused-walked _ _ _ (checked-stop rnt payload_verdict args.s.now _ (walked-refused _ _ _ (sym (rw checked.ensures at read-places.ensures) ∙ c.in_err-places.was)))
