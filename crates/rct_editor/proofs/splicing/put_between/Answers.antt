use Prim.Native.Nat.{◌+◌, ◌-◌}
use mathlib.Core.Path.{◌≡◌, refl, sym, ap, ◌∙◌}
use native.Mathlib.Omega.{arith}
use lib.ListN.{length}
use Rattle.byte_moves.proofs.Exact.{moved_length}
use Rattle.frame.specs.Syntax.{uncounted}
use Rattle.rct_edit.proofs.Outcomes.{room-passed}
use Rattle.rct_stores.proofs.Exact.{numbers-whole, fills}
use Rattle.rct_editor.proofs.Outcomes.{between-own, between-room, between_done, fitting}
use Rattle.rct_editor.proofs.Sizes.{own-refused, owned, total-within, still-within, tail-moves}
use Rattle.rct_editor.proofs.Stores.{spliced-put, finished-put}
use Rattle.wire.proofs.Verdicts.{handed-on}
use Rattle.rct_editor.proofs.splicing.put_between.Goals as goal

pub returns-in_err-own : goal.returns-in_err-own
returns-in_err-own c =
    let args = c.args in
    let check-link = c.check_link-own in
    let both = between-own args.b.now args.from args.to args.count args.text.now args.link _ _ (own-refused _ _ _ _ check-link.ensures c.in_err-own.was) (handed-on _ _ c.from_residual.ensures) in
    record { value = both.0; b_after = both.1 }

pub overflow_add-section_length-2 : goal.overflow_add-section_length-2
overflow_add-section_length-2 c =
    let args = c.args in
    let check-link = c.check_link-own in
    let pre = c.requires in
    let o = owned args.b.now args.from args.to args.text.now args.link args.total _ check-link.ensures c.in_ok-own.was pre.1.0 in
    omega (arith, o.short)

pub returns-in_err-check_room : goal.returns-in_err-check_room
returns-in_err-check_room c =
    let args = c.args in
    let check-link = c.check_link-own in
    let pre = c.requires in
    let o = owned args.b.now args.from args.to args.text.now args.link args.total _ check-link.ensures c.in_ok-own.was pre.1.0 in
    let both = between-room args.b.now args.from args.to args.count args.text.now args.link o.fine _ o.is _ _ (sym c.check_room.ensures ∙ c.in_err-check_room.was) (handed-on _ _ c.from_residual-in_err-check_room.ensures) in
    record { value = both.0; b_after = both.1 }

pub overflow_add-behind-2 : goal.overflow_add-behind-2
overflow_add-behind-2 c =
    let args = c.args in
    let check-link = c.check_link-own in
    let pre = c.requires in
    let o = owned args.b.now args.from args.to args.text.now args.link args.total _ check-link.ensures c.in_ok-own.was pre.1.0 in
    omega (arith, o.short)

pub put_entry-requires : goal.put_entry-requires
put_entry-requires c =
    let args = c.args in
    let check-link = c.check_link-own in
    let pre = c.requires in
    let o = owned args.b.now args.from args.to args.text.now args.link args.total _ check-link.ensures c.in_ok-own.was pre.1.0 in
    let f = fitting args.b.now args.from args.to args.count args.text.now args.link o.fine _ o.is (sym c.check_room.ensures ∙ c.in_ok-check_room.was) in
    (o.fine, (o.size, (omega (arith, o.size, f.is, f.fit), omega (arith, f.enough, ap length c.move_within.ensures.b_after ∙ moved_length args.b.now _ _ _))))

pub overflow_cast-count : goal.overflow_cast-count
overflow_cast-count c = omega (arith, c.requires.1.1)

pub overflow_add-section_length-3 : goal.overflow_add-section_length-3
overflow_add-section_length-3 c =
    omega (arith, (room-passed _ _ (sym c.check_room.ensures ∙ c.in_ok-check_room.was)).fit)

pub returns : goal.returns
returns c =
    let args = c.args in
    let check-link = c.check_link-own in
    let pre = c.requires in
    let payload-end = c.payload_end in
    let put-entry = c.put_entry in
    let put-numbers = c.put_numbers in
    let payload-end2 = c.payload_end-2 in
    let fill = c.fill in
    let xs = args.b.now in
    let o = owned xs args.from args.to args.text.now args.link args.total _ check-link.ensures c.in_ok-own.was pre.1.0 in
    let room = sym c.check_room.ensures ∙ c.in_ok-check_room.was in
    let len = args.total - uncounted - (args.to - args.from) + 2 + check-link.result.length in
    let f = fitting xs args.from args.to args.count args.text.now args.link o.fine _ o.is room in
    let tail = c.move_within.ensures.b_after ∙ sym (tail-moves xs args.from args.to args.text.now args.link args.total _ _ _ pre.0 o.size f pre.1.0 payload-end.ensures) in
    let numbers = put-numbers.ensures ∙ numbers-whole _ _ _ (omega (arith, f.enough, c.b-1.given, c.b-2-1.given)) (omega (arith, f.fit)) in
    let spliced = spliced-put xs _ _ _ args.from args.to args.count args.text.now args.link (args.from + 2 + check-link.result.length) (payload-end.result - args.to) len o.fine tail put-entry.ensures numbers (omega (arith, o.size)) (omega (arith, payload-end.ensures, pre.1.0)) in
    let filled = fill.ensures ∙ fills _ _ _ (still-within _ _ _ _ _ _ (total-within _ _ _ _ pre.0 pre.1.0) c.b-1.given c.b-2-1.given c.b-3-1.given c.b-4-1.given) in
    let done = finished-put xs _ _ _ args.from args.to args.count args.text.now args.link len payload-end2.result c.seal-new.result args.total (room-passed _ _ room).enough spliced c.seal-new.ensures.b_after filled o.is payload-end2.ensures c.seal-new.ensures.value pre.1.0 in
    let both = between_done xs args.from args.to args.count args.text.now args.link o.fine _ o.is _ _ _ room done.1 done.0 refl in
    record { value = both.0; b_after = both.1 }
