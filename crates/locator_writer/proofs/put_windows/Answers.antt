use native.Mathlib.Omega.{arith}
use Rattle.byte_stores.proofs.Writing.{wrote0, wrote1}
use borrow.Author.Rules.{rules}
use Rattle.locator_writer.proofs.put_windows.Goals as goal

pub bounds-b-at : goal.bounds-b-at
bounds-b-at c =
    let pre = c.requires in
    omega (arith, rw c.in-Some.is at pre)

pub returns-in-None : goal.returns-in-None
returns-in-None c = rw c.in-None.is (wrote0 _ _)

pub returns-in-Some : goal.returns-in-Some
returns-in-Some c =
    rw (c.in-Some.is, ← c.low-late.ensures, ← c.low-early.ensures) (wrote1 _ _ _)
