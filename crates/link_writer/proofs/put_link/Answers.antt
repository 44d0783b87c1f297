use Prim.Native.Nat.{ℕ, min}
use mathlib.Core.Path.{◌≡◌, refl, sym, ap, ◌∙◌}
use mathlib.Core.List.{List, ◌++◌}
use lib.ListN.{length, take, length-take}
use Rattle.std.proofs.lemmas.List.{take_min}
use Rattle.field.specs.Fields.{number_items}
use Rattle.link.specs.Records.{no_item}
use Rattle.link.specs.declared.LinkItem.{LinkItem}
use Rattle.link_draft.specs.Writing.{front_parts, items_parts, tail_parts, link_parts, put_all, link_put}
use Rattle.link_draft.proofs.Carriers.{array-length}
use Rattle.link_writer.proofs.Stages.{left, puts-all, puts-length, items-on, items-done}
use Rattle.link_writer.proofs.put_link.Goals as goal

pub loop-item-init : goal.loop-item-init
loop-item-init c = (refl, refl)

pub loop-item-preserved : goal.loop-item-preserved
loop-item-preserved c =
    let a = c.args in
    let l = c.loop-item in
    let item = c.put_item-p.ensures in
    (puts-length item ∙ l.invariant.0, items-on a.text.now _ l.item-index (tail_parts a.text.now a.link.fields) _ _ _ l.invariant.1 no_item c.loop-item-test.true item)

pub shape_of-b : goal.shape_of-b
shape_of-b c = puts-length c.put_tail.ensures ∙ c.loop-item.invariant.0 ∙ puts-length c.put_front-p.ensures

pub returns : goal.returns
unfolding link_put link_parts
returns c =
    let a = c.args in
    let l = c.loop-item in
    let f = a.link.fields in
    let t = a.text.now in
    let front = c.put_front-p in
    let full : length a.link.items ≡ number_items.widest = array-length a.link _ c.well_formed.1.1.1.0 in
    let counted : take c.held-n.result a.link.items ≡ take f.number_items a.link.items = rw (c.held-n.ensures.0, ← full) (take_min _ _) in
    let number : min f.number_items number_items.widest ≡ length (take f.number_items a.link.items) = sym (length-take f.number_items a.link.items ∙ ap (min f.number_items) full) in
    let done = items-done t _ l.item-index (tail_parts t f) _ _ _ l.invariant.1 c.loop-item-test.false in
    puts-all c.put_tail.ensures ∙ done
    ∙ ap (λ (is : List LinkItem). put_all front.new.b front.result (items_parts t is ++ tail_parts t f)) counted
    ∙ front.ensures.rest (left t a.link.items f 0)
    ∙ ap (λ (n : ℕ). put_all a.b.now a.at (front_parts t f n ++ left t a.link.items f 0)) number
