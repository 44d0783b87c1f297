use mathlib.Core.Path.{sym}
use native.Mathlib.Omega.{arith}
use lib.ListN.{length-set}
use Rattle.rct_stores.proofs.Exact.{numbers_stay}
use Rattle.rct_stores.proofs.Steps.{all-stored}
use borrow.Author.Rules.{rules}
use Rattle.rct_stores.proofs.put_numbers.Goals as goal

pub returns-then-b-le-COUNT_AT : goal.returns-then-b-le-COUNT_AT
returns-then-b-le-COUNT_AT c = sym (numbers_stay _ _ _ (omega arith))

pub bounds-b-2-2 : goal.bounds-b-2-2
bounds-b-2-2 c = simp length-set (omega arith)

pub bounds-b-10 : goal.bounds-b-10
bounds-b-10 c = simp length-set (omega arith)

pub returns : goal.returns
returns c =
    all-stored _ _ _ _ (omega arith) (omega (arith, c.slice_known-1.given 1, c.slice_known-1.given 2)) (rw c.of_bytes-old.ensures at c.to_bytes-bytes.ensures)
