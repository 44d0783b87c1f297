use native.Mathlib.Omega.{arith}
use native.Mathlib.Nat.{mod-le, mod-eq_of_lt}
use Prim.Native.Nat.{◌+◌}
use mathlib.Core.Path.{sym}
use borrow.Author.Rules.{rules}
use Rattle.field.proofs.Field.low.Goals as goal

pub returns-then-self-ge-ALL_OF_16_BITS : goal.returns-then-self-ge-ALL_OF_16_BITS
returns-then-self-ge-ALL_OF_16_BITS c = sym (mod-eq_of_lt (omega (arith, c.if-self-ge-ALL_OF_16_BITS.true)))

pub overflow_cast-result-2 : goal.overflow_cast-result-2
overflow_cast-result-2 c =
    let args = c.args in
    omega (arith, mod-le args.number (args.self.widest + 1))
