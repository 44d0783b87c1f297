use Rattle.link.specs.Syntax.{locator_due}
use Rattle.link_walker.proofs.Stages.{due, not-due, uri-known, place_none, place-9, place-past}
use borrow.Author.Rules.{rules}
use mathlib.Core.Path.{◌∙◌}
use native.Mathlib.Omega.{arith}
use Rattle.link_walker.proofs.walk.past_locator.Goals as goal

pub bounds-s-0 : goal.bounds-s-0
bounds-s-0 c =
    let args = c.args in
    let pre = c.requires in
    omega (arith, (uri-known args.s.now pre.0).0)

pub returns-then-not-has_locator : goal.returns-then-not-has_locator
returns-then-not-has_locator c =
    let s = c.args.s.now in
    let known = c.requires in
    let t = c.type_of.ensures in
    rw known.1 (place_none s (not-due locator_due s _ _ t c.has_locator.ensures c.if-not-has_locator.true))

pub overflow_add-first : goal.overflow_add-first
overflow_add-first c =
    let s = c.args.s.now in
    let known = c.requires in
    omega (arith, (uri-known s known.0).1, known.1)

pub returns-then-have-first : goal.returns-then-have-first
returns-then-have-first c =
    let s = c.args.s.now in
    let known = c.requires in
    let t = c.type_of.ensures in
    let l = c.has_locator.ensures in
    rw known.1 (place-9 s (due locator_due s _ _ t l c.if-not-has_locator.false) (rw known.1 at c.if-have-first.true))

pub locator_end-requires : goal.locator_end-requires
locator_end-requires c =
    let s = c.args.s.now in
    let known = c.requires in
    omega (arith, (uri-known s known.0).1, known.1)

pub returns : goal.returns
returns c =
    let s = c.args.s.now in
    let known = c.requires in
    let t = c.type_of.ensures in
    let l = c.has_locator.ensures in
    let d = c.if-not-has_locator.false in
    rw known.1 at c.locator_end.ensures ∙ place-past s (due locator_due s _ _ t l d) (rw known.1 at c.if-have-first.false)
