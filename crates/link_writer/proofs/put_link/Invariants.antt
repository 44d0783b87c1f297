use mathlib.Core.Path.{◌≡◌}
use mathlib.Core.List.{◌++◌}
use lib.ListN.{length, drop}
use Rattle.link_draft.specs.Writing.{items_parts, tail_parts, put_all}
use Rattle.link_writer.proofs.put_link.Given as goal

abbrev pub invariant-loop-item : goal.invariant-loop-item
invariant-loop-item l =
    let tail = tail_parts l.text l.fields in
    (length l.b ≡ length l.initial.b) × (put_all l.b l.p (items_parts l.text (drop l.item-index l.item-items) ++ tail) ≡ put_all l.initial.b l.initial.p (items_parts l.text l.item-items ++ tail))
