use Prim.Native.Nat.{◌+◌, ◌%◌, ◌<◌}
use native.Mathlib.Nat.{mod-lt}
use native.Mathlib.Omega.{arith}
use borrow.Author.Rules.{rules}
use Rattle.link_writer.proofs.length_byte.Goals as goal

pub overflow_cast-result-2 : goal.overflow_cast-result-2
overflow_cast-result-2 c =
    let pre = c.requires in
    let a = c.args in
    let few : a.range.length % (a.field.widest + 1) < a.field.widest + 1 = mod-lt a.range.length (omega arith) in
    omega (arith, few, pre)
