use Rattle.link.proofs.Bounds.{item-stop}
use Rattle.link_walker.proofs.Places.{places-at, places-refused}
use borrow.Author.Rules.{rules}
use mathlib.Core.Path.{sym, ◌∙◌}
use Rattle.wire.proofs.Verdicts.{handed-on}
use Rattle.link_reader.proofs.read_item.Goals as goal

pub item_numbered-requires : goal.item_numbered-requires
item_numbered-requires c =
    let s = c.args.s.now in
    let found = c.body_places.ensures in
    let f = places-at s _ _ _ (sym found ∙ c.in_ok-places.was) in
    (f.fine, f.count)

pub returns : goal.returns
returns c = c.item_numbered.ensures

pub returns-in_err-places : goal.returns-in_err-places
returns-in_err-places c =
    let start = c.args in
    let found = c.body_places.ensures in
    handed-on _ _ c.from_residual.ensures ∙ item-stop start.base start.s.now start.number _ (places-refused start.s.now _ (sym found ∙ c.in_err-places.was))
