use mathlib.Core.Path.{◌∙◌}
use native.Mathlib.Omega.{arith}
use Rattle.byte_moves.proofs.Exact.{moves, stays-from, stays-to, stays-there}
use Rattle.byte_moves.proofs.move_within.Goals as goal

pub returns-then-b-n : goal.returns-then-b-n
returns-then-b-n c =
    let args = c.args in
    let m = stays-from args.b.now args.from args.to args.n (omega arith) in
    record { value = m.0; b_after = m.1 }

pub returns-then-last-from : goal.returns-then-last-from
returns-then-last-from c =
    let args = c.args in
    let m = stays-from args.b.now args.from args.to args.n (omega arith) in
    record { value = m.0; b_after = m.1 }

pub returns-then-last-to : goal.returns-then-last-to
returns-then-last-to c =
    let args = c.args in
    let m = stays-to args.b.now args.from args.to args.n (omega arith) in
    record { value = m.0; b_after = m.1 }

pub returns-then-from-to : goal.returns-then-from-to
returns-then-from-to c =
    let if4 = c.if-from-to in
    let args = c.args in
    let m = stays-there args.b.now args.from args.to args.n if4.true (omega arith) in
    record { value = m.0; b_after = m.1 }

pub returns-then-from-to-2 : goal.returns-then-from-to-2
returns-then-from-to-2 c =
    let args = c.args in
    let move_up = c.move_up in
    let m = moves args.b.now args.from args.to args.n (omega arith) (omega arith) in
    record { value = m.0; b_after = move_up.ensures ∙ m.1 }

pub returns-else-from-to-2 : goal.returns-else-from-to-2
returns-else-from-to-2 c =
    let args = c.args in
    let move_down = c.move_down in
    let m = moves args.b.now args.from args.to args.n (omega arith) (omega arith) in
    record { value = m.0; b_after = move_down.ensures ∙ m.1 }
