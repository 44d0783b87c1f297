use mathlib.Core.Path.{sym, ◌∙◌}
use native.Mathlib.Omega.{arith}
use Rattle.wire.proofs.Lists.{bytes-known}
use Rattle.link.specs.Syntax.{locator_due}
use Rattle.link.proofs.Answers.{fields-refused}
use Rattle.link_walker.proofs.Places.{places-at, places-refused}
use Rattle.link_walker.proofs.Stages.{due, not-due}
use Rattle.fields_reader.proofs.Stages.{laid, held-not-due, held-got, held-refused}
use borrow.Author.Rules.{rules}
use Rattle.wire.proofs.Verdicts.{handed-on}
use Rattle.fields_reader.proofs.read_fields.Goals as goal

pub bounds-s-0 : goal.bounds-s-0
bounds-s-0 c =
    let args = c.args in
    let fields-places = c.fields_places in
    let s = args.s.now in
    let f = places-at s _ _ _ (sym fields-places.ensures ∙ c.in_ok-places.was) in
    omega (arith, (laid s _ _ _ (bytes-known s c.type_inv.s) f).headed)

pub overflow_cast-s : goal.overflow_cast-s
overflow_cast-s c = omega (arith, c.type_inv.s 0)

pub fields_got-requires : goal.fields_got-requires
fields_got-requires c =
    let args = c.args in
    let fields-places = c.fields_places in
    let low = c.low in
    let s = args.s.now in
    let f = places-at s _ _ _ (sym fields-places.ensures ∙ c.in_ok-places.was) in
    let none = not-due locator_due s _ _ low.ensures c.has_locator.ensures c.if-not-has_locator.true in
    (f.fine, laid s _ _ _ (bytes-known s c.type_inv.s) f, held-not-due s none)

pub slice_bounds-read_locator-count : goal.slice_bounds-read_locator-count
slice_bounds-read_locator-count c =
    let args = c.args in
    let fields-places = c.fields_places in
    let s = args.s.now in
    let f = places-at s _ _ _ (sym fields-places.ensures ∙ c.in_ok-places.was) in
    omega (arith, (laid s _ _ _ (bytes-known s c.type_inv.s) f).reaches)

pub slice_bounds-read_locator-start : goal.slice_bounds-read_locator-start
slice_bounds-read_locator-start c =
    let s = c.args.s.now in
    let f = places-at s _ _ _ (sym c.fields_places.ensures ∙ c.in_ok-places.was) in
    omega (arith, (laid s _ _ _ (bytes-known s c.type_inv.s) f).reaches)

pub fields_got-requires-2 : goal.fields_got-requires-2
fields_got-requires-2 c =
    let args = c.args in
    let fields-places = c.fields_places in
    let low = c.low in
    let has-locator = c.has_locator in
    let read-locator = c.read_locator in
    let s = args.s.now in
    let f = places-at s _ _ _ (sym fields-places.ensures ∙ c.in_ok-places.was) in
    let one = due locator_due s _ _ low.ensures has-locator.ensures c.if-not-has_locator.false in
    (f.fine, laid s _ _ _ (bytes-known s c.type_inv.s) f, held-got s _ f.uri one _ read-locator.ensures _ _ c.in_ok-read.was)

pub returns-in_err-read : goal.returns-in_err-read
returns-in_err-read c =
    let args = c.args in
    let fields-places = c.fields_places in
    let low = c.low in
    let has-locator = c.has_locator in
    let read-locator = c.read_locator in
    let s = args.s.now in
    let f = places-at s _ _ _ (sym fields-places.ensures ∙ c.in_ok-places.was) in
    let one = due locator_due s _ _ low.ensures has-locator.ensures c.if-not-has_locator.false in
    handed-on _ _ c.from_residual-in_err-read.ensures ∙ absurd (held-refused s _ f.uri one _ read-locator.ensures _ c.in_err-read.was f.fine)

pub returns-in_err-places : goal.returns-in_err-places
returns-in_err-places c =
    let args = c.args in
    let fields-places = c.fields_places in
    let refused = places-refused args.s.now _ (sym fields-places.ensures ∙ c.in_err-places.was) in
    handed-on _ _ c.from_residual.ensures ∙ fields-refused args.base args.reserved args.s.now _ refused
