use mathlib.Core.Path.{refl, sym, ◌∙◌}
use native.Mathlib.Omega.{arith}
use Rattle.rct_edit.proofs.Outcomes.{room-passed}
use Rattle.rct_edit.proofs.Narrow.{loop-narrow}
use Rattle.rct_maker.proofs.Made.{make-own, make-room, make-done}
use Rattle.wire.proofs.Verdicts.{handed-on}
use Rattle.rct_maker.proofs.make.Goals as goal

pub returns-in_err-check_making : goal.returns-in_err-check_making
returns-in_err-check_making c =
    let args = c.args in
    let both = make-own args.b.now args.header args.reserved_descriptor_loop_length args.text.now args.descriptors _ _ (sym c.check_making.ensures ∙ c.in_err-check_making.was) (handed-on _ _ c.from_residual.ensures) in
    record { value = both.0; b_after = both.1 }

pub returns-in_err-check_room : goal.returns-in_err-check_room
returns-in_err-check_room c =
    let args = c.args in
    let both = make-room args.b.now args.header args.reserved_descriptor_loop_length args.text.now args.descriptors (sym c.check_making.ensures ∙ c.in_ok-check_making.was) _ refl _ _ (sym c.check_room.ensures ∙ c.in_err-check_room.was) (handed-on _ _ c.from_residual-in_err-check_room.ensures) in
    record { value = both.0; b_after = both.1 }

pub put_loop-end-requires : goal.put_loop-end-requires
put_loop-end-requires c =
    let args = c.args in
    (loop-narrow args.header _ args.text.now args.descriptors (sym c.check_making.ensures ∙ c.in_ok-check_making.was), omega (arith, (room-passed _ _ (sym c.check_room.ensures ∙ c.in_ok-check_room.was)).enough))

pub returns : goal.returns
returns c =
    let args = c.args in
    let head_bytes = c.head_bytes-head in
    let put-loop = c.put_loop-end in
    let both = make-done args.b.now args.header args.reserved_descriptor_loop_length args.text.now args.descriptors (sym c.check_making.ensures ∙ c.in_ok-check_making.was) _ refl _ _ _ _ _ _ _ (sym c.check_room.ensures ∙ c.in_ok-check_room.was) head_bytes.ensures c.put_at.ensures.b_after put-loop.ensures c.seal.ensures.b_after c.seal.ensures.value refl in
    record { value = both.0; b_after = both.1 }
