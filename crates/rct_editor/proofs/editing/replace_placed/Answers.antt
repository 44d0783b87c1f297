use mathlib.Core.Path.{sym, ap, ◌∙◌}
use native.Mathlib.Omega.{arith}
use Rattle.wire.proofs.Lists.{bytes-known, bytes-at}
use Rattle.rct.specs.Syntax.{link_count_place}
use Rattle.rct_walker.specs.declared.RctPlaces.{RctPlaces}
use Rattle.rct_walker.proofs.Walks.{walked-read, walked-refused, span-known, span-absent}
use Rattle.rct_editor.proofs.Between.{replace-unread, replace-none, replace-spot, replace-goes}
use borrow.Author.Rules.{rules}
use Rattle.wire.proofs.Verdicts.{handed-on}
use Rattle.rct_editor.proofs.editing.replace_placed.Goals as goal

pub returns-then-count-number : goal.returns-then-count-number
returns-then-count-number c =
    let checked-places = c.checked_places in
    let args = c.args in
    let g = walked-read _ _ _ (sym checked-places.ensures ∙ c.in_ok-places.was) in
    let n = ap (λ (p : RctPlaces). p.count) g.1 in
    let both = replace-none args.b.now args.number args.text.now args.link g.0 _ _ n c.if-count-number.true c.no_such.ensures in
    record { value = both.0; b_after = both.1 }

pub put_between-edited-requires : goal.put_between-edited-requires
put_between-edited-requires c =
    let checked-places = c.checked_places in
    let args = c.args in
    let if1 = c.if-count-number in
    let g = walked-read _ _ _ (sym checked-places.ensures ∙ c.in_ok-places.was) in
    let n = ap (λ (p : RctPlaces). p.count) g.1 in
    let b = bytes-known args.b.now c.slice_known-1.given in
    let f = span-known args.b.now args.number _ _ (omega (arith, if1.false, n)) (ap (λ (p : RctPlaces). p.link) g.1 ∙ c.in-Some.is) in
    (replace-spot args.b.now args.number args.text.now args.link g.0 _ _ f b (omega (arith, if1.false, n)), (sym (ap (λ (p : RctPlaces). p.total) g.1), omega (arith, n, bytes-at args.b.now link_count_place b)))

pub returns-in-Some : goal.returns-in-Some
returns-in-Some c =
    let checked-places = c.checked_places in
    let args = c.args in
    let if1 = c.if-count-number in
    let g = walked-read _ _ _ (sym checked-places.ensures ∙ c.in_ok-places.was) in
    let n = ap (λ (p : RctPlaces). p.count) g.1 in
    let b = bytes-known args.b.now c.slice_known-1.given in
    let f = span-known args.b.now args.number _ _ (omega (arith, if1.false, n)) (ap (λ (p : RctPlaces). p.link) g.1 ∙ c.in-Some.is) in
    let both = replace-goes args.b.now args.number args.text.now args.link g.0 _ _ f b (omega (arith, if1.false, n)) _ _ _ _ _ n (ap (λ (p : RctPlaces). p.total) g.1) (c.put_between-edited.ensures.value, c.put_between-edited.ensures.b_after) c.of.ensures in
    record { value = both.0; b_after = both.1 }

pub returns-in-None : goal.returns-in-None
returns-in-None c =
    let checked-places = c.checked_places in
    let args = c.args in
    let if1 = c.if-count-number in
    let g = walked-read _ _ _ (sym checked-places.ensures ∙ c.in_ok-places.was) in
    let n = ap (λ (p : RctPlaces). p.count) g.1 in
    absurd (span-absent args.b.now args.number (ap (λ (p : RctPlaces). p.link) g.1 ∙ c.in-None.is) (omega (arith, if1.false, n)))

pub returns-in_err-places : goal.returns-in_err-places
returns-in_err-places c =
    let args = c.args in
    let checked-places = c.checked_places in
    let both = replace-unread args.b.now args.number args.text.now args.link _ (walked-refused _ _ _ (sym checked-places.ensures ∙ c.in_err-places.was)) in
    record { value = handed-on _ _ c.from_residual.ensures ∙ both.0; b_after = both.1 }
