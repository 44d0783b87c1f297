use mathlib.Core.Path.{◌≡◌, refl, ap, sym, ◌∙◌}
use native.Mathlib.Omega.{arith}
use Rattle.length_field.specs.declared.LengthField.{LengthField}
use Rattle.wire.proofs.Lists.{bytes-known}
use Rattle.rct_bodies.proofs.Bodies.{at-known, at-21, at-never, body_refused, body-found}
use borrow.Author.Rules.{rules}
use Rattle.rct_bodies.proofs.body_at.Goals as goal

pub returns-then-places-number : goal.returns-then-places-number
returns-then-places-number c =
    let args = c.args in
    let pre = c.requires in
    let s = args.s.now in
    c.no_such.ensures ∙ body_refused s args.number _ (at-21 s args.number args.places pre.0 pre.1 c.if-places-number.true)

pub bounds-s-start : goal.bounds-s-start
bounds-s-start c =
    let args = c.args in
    let pre = c.requires in
    let if1 = c.if-places-number in
    let s = args.s.now in
    let k = at-known s args.number args.places pre.0 pre.1 _ _ (bytes-known s c.type_inv.s) if1.false c.in-Some.is in
    search rules

pub overflow_add-start : goal.overflow_add-start
overflow_add-start c =
    let args = c.args in
    let pre = c.requires in
    let if1 = c.if-places-number in
    let s = args.s.now in
    let k = at-known s args.number args.places pre.0 pre.1 _ _ (bytes-known s c.type_inv.s) if1.false c.in-Some.is in
    search rules

pub bounds-s-start-in-Some : goal.bounds-s-start-in-Some
bounds-s-start-in-Some c =
    let args = c.args in
    let pre = c.requires in
    let if1 = c.if-places-number in
    let s = args.s.now in
    let k = at-known s args.number args.places pre.0 pre.1 _ _ (bytes-known s c.type_inv.s) if1.false c.in-Some.is in
    search rules

pub overflow_add-result : goal.overflow_add-result
overflow_add-result c =
    let args = c.args in
    let pre = c.requires in
    let if1 = c.if-places-number in
    let s = args.s.now in
    let k = at-known s args.number args.places pre.0 pre.1 _ _ (bytes-known s c.type_inv.s) if1.false c.in-Some.is in
    search rules

pub returns-in-Some : goal.returns-in-Some
returns-in-Some c =
    let args = c.args in
    let pre = c.requires in
    let if1 = c.if-places-number in
    let s = args.s.now in
    let k = at-known s args.number args.places pre.0 pre.1 _ _ (bytes-known s c.type_inv.s) if1.false c.in-Some.is in
    rw (c.of_bytes-field.ensures, ← k.place) (body-found s args.number _ _ _ k.rows refl refl refl)

pub returns-in-None : goal.returns-in-None
returns-in-None c =
    let args = c.args in
    let pre = c.requires in
    let if1 = c.if-places-number in
    absurd (at-never args.s.now args.number args.places pre.0 pre.1 if1.false c.in-None.is)
