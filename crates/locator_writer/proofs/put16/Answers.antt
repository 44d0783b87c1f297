use native.Mathlib.Omega.{arith}
use lib.ListN.{length-set}
use Rattle.byte_stores.proofs.Writing.{wrote2}
use borrow.Author.Rules.{rules}
use Rattle.locator_writer.proofs.put16.Goals as goal

pub bounds-b-at-2 : goal.bounds-b-at-2
bounds-b-at-2 c = simp length-set (omega arith)

pub returns : goal.returns
returns c = wrote2 _ _ _ _
