use Prim.Native.Nat.{ℕ, ◌+◌, ◌≤◌}
use mathlib.Core.Bool.{Bool, true, false}
use mathlib.Core.Path.{◌≡◌}
use native.Mathlib.Omega.{arith}
use lib.Dec.{eqb}
use borrow.Author.Tests.{eq-eqb, ne_eqb}
use Rattle.wire.specs.Choice.{pick}
use Rattle.locator.specs.Syntax.{id_length, component_length}
use Rattle.locator.specs.Reading.{type_in, tail_length}
use borrow.Author.Rules.{rules}
use Rattle.locator_reader.proofs.identifier_at.Goals as goal

-- `identifier_at` meets its contract. Assumes nothing.
-- where there is an identifier, its id is there
with-id : (h : ℕ) → (type_in h ≡ 0 → ⊥) → id_length ≤ tail_length h
with-id h n = simp (ne_eqb _ _ n) (go (eqb (type_in h) 3))
  where
    go : (b : Bool) → id_length ≤ pick b (id_length + component_length) id_length
    go true = omega arith
    go false = omega arith

pub returns-then-head-eq0 : goal.returns-then-head-eq0
returns-then-head-eq0 c = simp (eq-eqb _ _ c.if-head-eq0.true)

pub be16_at-id-requires : goal.be16_at-id-requires
be16_at-id-requires c =
    let args = c.args in
    omega (arith, with-id args.head c.if-head-eq0.false)

pub bounds-s-at : goal.bounds-s-at
bounds-s-at c =
    let if1 = c.if-head-eq0 in
    let pre = c.requires in
    omega (arith, simp (ne_eqb _ _ if1.false, eq-eqb _ _ c.if-head-eq3.true) at pre)

pub returns-then-head-eq3 : goal.returns-then-head-eq3
returns-then-head-eq3 c =
    let be16-at = c.be16_at-id in
    let if1 = c.if-head-eq0 in
    simp (ne_eqb _ _ if1.false, eq-eqb _ _ c.if-head-eq3.true) (rw be16-at.ensures)

pub returns-then-head-eq1 : goal.returns-then-head-eq1
returns-then-head-eq1 c =
    let be16-at = c.be16_at-id in
    let if1 = c.if-head-eq0 in
    simp (ne_eqb _ _ if1.false, ne_eqb _ _ c.if-head-eq3.false, eq-eqb _ _ c.if-head-eq1.true) (rw be16-at.ensures)

pub returns : goal.returns
returns c =
    let be16-at = c.be16_at-id in
    let if1 = c.if-head-eq0 in
    simp (ne_eqb _ _ if1.false, ne_eqb _ _ c.if-head-eq3.false, ne_eqb _ _ c.if-head-eq1.false) (rw be16-at.ensures)
