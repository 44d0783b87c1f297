use Prim.Native.Nat.{◌-◌, ◌^◌, ◌≤◌, ◌<◌}
use mathlib.Core.Path.{◌≡◌, sym, ◌∙◌}
use native.Mathlib.Omega.{arith}
use borrow.Author.Rules.{rules}
use Rattle.crc.specs.Shifts.{shift, shifts}
use Rattle.crc.proofs.Shift.{shift-low, shift-high, shifts_none}
use Rattle.crc_register.proofs.Loops.{within, next-clock, all-clocks}
use Rattle.crc_register.proofs.clock_byte.Goals as goal
use Rattle.crc_register.proofs.clock_byte.Goals.{then-q-ge2147483648, else-q-ge2147483648}

pub loop-init : goal.loop-init
loop-init c = (search rules, sym (shifts_none _))

pub loop-preserved : goal.loop-preserved
loop-preserved c =
    let a = c.args in
    let l = c.loop in
    let small : l.q < 2 ^ 32 = within a.r a.x l.q l.counter (omega arith) (omega arith) l.invariant.1 in
    let moved : shift l.q ≡ c.if-q-ge2147483648.q =
    elim c.if-q-ge2147483648.branch [ then-q-ge2147483648 w ↦ shift-high l.q w.if-q-ge2147483648.true small ∙ sym w.q-is | else-q-ge2147483648 w ↦ shift-low l.q w.if-q-ge2147483648.false ∙ sym w.q-is ] in
    (search rules, next-clock a.r a.x l.q l.counter (omega arith) (omega arith) l.invariant.1 moved)

pub returns : goal.returns
returns c =
    let a = c.args in
    let l = c.loop in
    all-clocks a.r a.x l.q l.counter (omega arith) (omega arith) l.invariant.1 (omega arith)
