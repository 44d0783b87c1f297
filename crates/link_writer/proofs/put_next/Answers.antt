use Prim.Native.Nat.{◌+◌}
use mathlib.Core.Path.{sym, ◌∙◌}
use native.Mathlib.Omega.{arith}
use lib.ListN.{length}
use borrow.Author.Tests.{leb-true}
use Rattle.link_writer.proofs.Stages.{puts_one, puts-full}
use borrow.Author.Rules.{rules}
use Rattle.link_writer.proofs.put_next.Goals as goal

pub overflow_add-result : goal.overflow_add-result
overflow_add-result c =
    let a = c.args in
    let put = c.put_at.ensures in
    omega (arith, leb-true (a.at + length a.part.now) (length a.b.now) (sym put.value ∙ c.if-put_at.true))

pub returns-then-put_at : goal.returns-then-put_at
returns-then-put_at c =
    let put = c.put_at.ensures in
    puts_one _ _ _ _ put.b_after

pub returns-else-put_at : goal.returns-else-put_at
returns-else-put_at c =
    let put = c.put_at.ensures in
    puts-full _ _ _ _ put.b_after (sym put.value ∙ c.if-put_at.false)
