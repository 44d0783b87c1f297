use borrow.Author.Tests.{lt-ltb, le-ltb}
use native.Mathlib.Omega.{arith}
use Rattle.wire.specs.Verdict.{refuse, ◌▷◌}
use Rattle.frame.specs.Syntax.{limit}
use Rattle.rct_edit.specs.Edit.{room_rows}
use Rattle.rct_edit.proofs.room.check_room.Goals as goal

pub returns-then-section_length-gt-LIMIT : goal.returns-then-section_length-gt-LIMIT
unfolding room_rows refuse ◌▷◌
returns-then-section_length-gt-LIMIT c = simp (lt-ltb limit c.args.section_length (omega arith))

pub returns-then-room-total : goal.returns-then-room-total
unfolding room_rows refuse ◌▷◌
returns-then-room-total c = simp (le-ltb limit c.args.section_length (omega arith), lt-ltb _ _ c.if-room-total.true)

pub returns : goal.returns
unfolding room_rows refuse ◌▷◌
returns c = simp (le-ltb limit c.args.section_length (omega arith), le-ltb _ _ c.if-room-total.false)
