use mathlib.Core.Path.{◌≡◌, ap, ◌∙◌}
use native.Mathlib.Omega.{arith}
use lib.ListN.{length, length-take, take}
use Rattle.std.proofs.lemmas.List.{take_min}
use Rattle.field.specs.Fields.{number_items}
use Rattle.link.specs.Records.{no_item}
use Rattle.link_draft.proofs.Carriers.{array-length}
use Rattle.link_checker.specs.Stages.{texts_checked, all_checked}
use Rattle.link_checker.proofs.Texts.{texts-start, texts-on, texts-done, all-checked}
use Rattle.link_checker.proofs.check_link.Goals as goal

pub loop-item-init : goal.loop-item-init
loop-item-init c = (rw c.none-texts.ensures (texts-start _ _), rw c.none-texts.ensures (omega arith))

pub joined-texts-requires : goal.joined-texts-requires
joined-texts-requires c = omega (arith, c.check_ranged-found.ensures.1, c.loop-item.invariant.1, c.held-n.ensures.1, length-take c.held-n.result c.args.link.items)

pub loop-item-preserved : goal.loop-item-preserved
loop-item-preserved c =
    let l = c.loop-item in
    let one = c.check_ranged-found.ensures in
    let next = c.joined-texts.ensures in
    (rw (next, one.0) (texts-on _ _ l.item-index l.texts _ l.invariant.0 no_item c.loop-item-test.true), rw next (omega (arith, one.1, l.invariant.1)))

pub check_all-requires : goal.check_all-requires
check_all-requires c = omega (arith, c.loop-item.invariant.1, c.held-n.ensures.1, length-take c.held-n.result c.args.link.items)

pub returns : goal.returns
returns c =
    let a = c.args in
    let l = c.loop-item in
    let full : length a.link.items ≡ number_items.widest = array-length a.link _ c.well_formed.1.0 in
    let counted : take c.held-n.result a.link.items ≡ take a.link.fields.number_items a.link.items = rw (c.held-n.ensures.0, ← full) (take_min _ _) in
    let done = texts-done (length a.text.now) _ l.item-index l.texts _ l.invariant.0 c.loop-item-test.false in
    c.check_all.ensures ∙ ap (all_checked (length a.text.now) a.link.fields) (done ∙ ap (texts_checked (length a.text.now)) counted) ∙ all-checked a.text.now a.link
