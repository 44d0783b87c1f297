use Prim.Native.Nat.{◌-◌, ◌^◌, ◌≤◌, ◌<◌}
use mathlib.Core.Path.{◌≡◌, sym, ◌∙◌}
use mathlib.Core.Logic.{⊎_elim}
use native.Mathlib.Omega.{arith}
use borrow.Author.Rules.{rules}
use Rattle.crc.specs.Shifts.{shift, shifts}
use Rattle.crc.proofs.Shift.{shift-low, shift-high, shifts_none}
use Rattle.crc_register.proofs.Loops.{within, next-clock, all-clocks}
use Rattle.crc_register.proofs.clock_byte.Given as goal

abbrev pub invariant-loop : goal.invariant-loop
invariant-loop l = (l.counter ≤ 8) × (l.q ≡ shifts l.counter l.initial.q)

abbrev pub decreases-loop : goal.decreases-loop
decreases-loop l = 8 - l.counter
