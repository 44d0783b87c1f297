use native.Mathlib.Omega.{arith}
use Rattle.wire.proofs.Lists.{bytes-known}
use Rattle.link.proofs.Bounds.{items-within, count-far}
use Rattle.link_walker.proofs.Stages.{rest-11, counted-at, counted-refused, rest-stop, rest-tail}
use borrow.Author.Rules.{rules}
use mathlib.Core.Path.{◌∙◌}
use Rattle.wire.proofs.Verdicts.{handed-on}
use Rattle.link_walker.proofs.walk.past_rest.Goals as goal

pub returns-then-have-first : goal.returns-then-have-first
returns-then-have-first c =
    let args = c.args in
    let known = c.requires in
    rw known.0 (rest-11 args.s.now (rw known.0 at c.if-have-first.true))

pub overflow_cast-first : goal.overflow_cast-first
overflow_cast-first c =
    let args = c.args in
    let known = c.requires in
    omega (arith, count-far args.s.now (bytes-known args.s.now c.type_inv.s), known.0)

pub up_to_tail-requires : goal.up_to_tail-requires
up_to_tail-requires c =
    let s = c.args.s.now in
    let e = c.requires.0 in
    let n = c.count_of.ensures.0 in
    let h = c.if-have-first.false in
    let walked = c.past_items.ensures in
    let g = counted-at s _ _ _ e n walked _ c.in_ok-tail.was in
    rw (← g.1) (items-within _ s _ (rw e at h) g.0)

pub returns : goal.returns
returns c =
    let s = c.args.s.now in
    let e = c.requires.0 in
    let n = c.count_of.ensures.0 in
    let h = c.if-have-first.false in
    let walked = c.past_items.ensures in
    let found = c.in_ok-tail.was in
    let g = counted-at s _ _ _ e n walked _ found in
    c.up_to_tail.ensures ∙ rest-tail s (rw e at h) _ g.0 g.1

pub returns-in_err-tail : goal.returns-in_err-tail
returns-in_err-tail c =
    let s = c.args.s.now in
    let e = c.requires.0 in
    let n = c.count_of.ensures.0 in
    let h = c.if-have-first.false in
    let walked = c.past_items.ensures in
    handed-on _ _ c.from_residual.ensures ∙ rest-stop s (rw e at h) _ (counted-refused s _ _ _ e n walked _ c.in_err-tail.was)
