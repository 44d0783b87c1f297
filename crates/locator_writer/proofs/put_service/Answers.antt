use Prim.Native.Nat.{ℕ, ◌%◌}
use mathlib.Core.Path.{◌≡◌}
use native.Mathlib.Omega.{arith}
use Rattle.field.specs.Fields.{triplet_id, low}
use Rattle.byte_stores.proofs.Writing.{wrote1, then}
use borrow.Author.Rules.{rules}
use Rattle.locator_writer.proofs.put_service.Goals as goal

-- `put_service` meets its contract. Assumes nothing.
-- the lowest byte of a triplet id, whatever stands above its ten bits
last_byte : (t : ℕ) → low triplet_id t % 256 ≡ t % 256
last_byte t = omega arith

pub bounds-b-at : goal.bounds-b-at
bounds-b-at c =
    let pre = c.requires in
    omega (arith, rw c.in-Triplet.is at pre)

pub put16-network-requires : goal.put16-network-requires
put16-network-requires c =
    let pre = c.requires in
    omega (arith, rw c.in-Full.is at pre)

pub put16-service-requires : goal.put16-service-requires
put16-service-requires c =
    let pre = c.requires in
    omega (arith, rw c.in-Full.is at pre)

pub put16-requires : goal.put16-requires
put16-requires c =
    let pre = c.requires in
    omega (arith, rw c.in-Full.is at pre)

pub returns-in-Triplet : goal.returns-in-Triplet
returns-in-Triplet c = rw c.in-Triplet.is (rw last_byte (wrote1 _ _ _))

pub returns-in-Full : goal.returns-in-Full
returns-in-Full c =
    let put163 = c.put16 in
    let put162 = c.put16-service in
    let put16 = c.put16-network in
    rw c.in-Full.is (then (then put16.ensures put162.ensures) put163.ensures)
