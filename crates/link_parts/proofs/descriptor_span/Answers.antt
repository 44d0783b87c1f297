use Rattle.link.proofs.Nothing.{no-descriptors-refused}
use Rattle.link.proofs.Parts.{descriptors-left, tail-inside}
use Rattle.link_walker.proofs.Places.{places-at, places-refused}
use borrow.Author.Rules.{rules}
use mathlib.Core.Path.{sym, ◌∙◌}
use native.Mathlib.Omega.{arith}
use Rattle.link_parts.proofs.descriptor_span.Goals as goal

pub overflow_add-start : goal.overflow_add-start
overflow_add-start c =
    let s = c.args.s.now in
    let found = c.body_places-places.ensures in
    let f = places-at s _ _ _ (sym found ∙ c.in-Ok.is) in
    omega (arith, tail-inside s f.fine, f.tail)

pub overflow_sub-result : goal.overflow_sub-result
overflow_sub-result c =
    let s = c.args.s.now in
    let found = c.body_places-places.ensures in
    let f = places-at s _ _ _ (sym found ∙ c.in-Ok.is) in
    omega (arith, tail-inside s f.fine, f.tail)

pub returns-in-Ok : goal.returns-in-Ok
returns-in-Ok c =
    let s = c.args.s.now in
    let found = c.body_places-places.ensures in
    let f = places-at s _ _ _ (sym found ∙ c.in-Ok.is) in
    rw f.tail (descriptors-left s f.fine)

pub returns-in-Err : goal.returns-in-Err
returns-in-Err c =
    let s = c.args.s.now in
    let found = c.body_places-places.ensures in
    sym (no-descriptors-refused s _ (places-refused s _ (sym found ∙ c.in-Err.is)))
