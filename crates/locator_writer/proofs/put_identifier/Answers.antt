use native.Mathlib.Omega.{arith}
use Rattle.byte_stores.proofs.Writing.{wrote0, wrote1, then}
use borrow.Author.Rules.{rules}
use Rattle.locator_writer.proofs.put_identifier.Goals as goal

pub put16-requires : goal.put16-requires
put16-requires c =
    let pre = c.requires in
    omega (arith, rw c.in-EventId.is at pre)

pub put16-requires-in-TvaIdEit : goal.put16-requires-in-TvaIdEit
put16-requires-in-TvaIdEit c =
    let pre = c.requires in
    omega (arith, rw c.in-TvaIdEit.is at pre)

pub put16-end-requires : goal.put16-end-requires
put16-end-requires c =
    let pre = c.requires in
    omega (arith, rw c.in-TvaIdPes.is at pre)

pub bounds-b-end : goal.bounds-b-end
bounds-b-end c =
    let pre = c.requires in
    omega (arith, rw c.in-TvaIdPes.is at pre)

pub returns-in-None : goal.returns-in-None
returns-in-None c = rw c.in-None.is (wrote0 _ _)

pub returns-in-EventId : goal.returns-in-EventId
returns-in-EventId c =
    let put16 = c.put16 in
    rw c.in-EventId.is put16.ensures

pub returns-in-TvaIdEit : goal.returns-in-TvaIdEit
returns-in-TvaIdEit c =
    let put162 = c.put16-in-TvaIdEit in
    rw c.in-TvaIdEit.is put162.ensures

pub returns-in-TvaIdPes : goal.returns-in-TvaIdPes
returns-in-TvaIdPes c =
    let put163 = c.put16-end in
    rw c.in-TvaIdPes.is (then put163.ensures (wrote1 _ _ _))
