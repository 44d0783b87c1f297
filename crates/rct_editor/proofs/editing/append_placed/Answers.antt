use mathlib.Core.Path.{sym, ap, ◌∙◌}
use native.Mathlib.Omega.{arith}
use Rattle.wire.proofs.Lists.{bytes-known}
use Rattle.rct_walker.specs.declared.RctPlaces.{RctPlaces}
use Rattle.rct_walker.proofs.Walks.{walked-read, walked-refused}
use Rattle.rct_editor.proofs.Between.{append-unread, append-full, append-spot, append-goes}
use borrow.Author.Rules.{rules}
use Rattle.wire.proofs.Verdicts.{handed-on}
use Rattle.rct_editor.proofs.editing.append_placed.Goals as goal

pub returns-then-most_links-count : goal.returns-then-most_links-count
returns-then-most_links-count c =
    let checked-places = c.checked_places in
    let args = c.args in
    let most-links = c.most_links in
    let g = walked-read _ _ _ (sym checked-places.ensures ∙ c.in_ok-places.was) in
    let n = ap (λ (p : RctPlaces). p.count) g.1 in
    let both = append-full args.b.now args.text.now args.link g.0 _ (omega (arith, most-links.ensures, n)) c.most_links-then-most_links-count.ensures in
    record { value = both.0; b_after = both.1 }

pub put_between-edited-requires : goal.put_between-edited-requires
put_between-edited-requires c =
    let checked-places = c.checked_places in
    let args = c.args in
    let most-links = c.most_links in
    let g = walked-read _ _ _ (sym checked-places.ensures ∙ c.in_ok-places.was) in
    let b = bytes-known args.b.now c.slice_known-1.given in
    (append-spot args.b.now args.text.now args.link g.0 _ (ap (λ (p : RctPlaces). p.loop_at) g.1) b, (sym (ap (λ (p : RctPlaces). p.total) g.1), omega (arith, most-links.ensures)))

pub returns : goal.returns
returns c =
    let checked-places = c.checked_places in
    let args = c.args in
    let most-links = c.most_links in
    let g = walked-read _ _ _ (sym checked-places.ensures ∙ c.in_ok-places.was) in
    let n = ap (λ (p : RctPlaces). p.count) g.1 in
    let b = bytes-known args.b.now c.slice_known-1.given in
    let both = append-goes args.b.now args.text.now args.link g.0 _ (ap (λ (p : RctPlaces). p.loop_at) g.1) b _ _ _ _ _ n (ap (λ (p : RctPlaces). p.total) g.1) (omega (arith, most-links.ensures)) (c.put_between-edited.ensures.value, c.put_between-edited.ensures.b_after) c.of.ensures in
    record { value = both.0; b_after = both.1 }

pub returns-in_err-places : goal.returns-in_err-places
returns-in_err-places c =
    let args = c.args in
    let checked-places = c.checked_places in
    let both = append-unread args.b.now args.text.now args.link _ (walked-refused _ _ _ (sym checked-places.ensures ∙ c.in_err-places.was)) in
    record { value = handed-on _ _ c.from_residual.ensures ∙ both.0; b_after = both.1 }
