use Prim.Native.Nat.{◌+◌}
use Rattle.fields_reader.specs.Stages.{tail_at}
use Rattle.length_field.specs.declared.LengthField.{LengthField}
use borrow.Author.Rules.{rules}
use mathlib.Core.Path.{ap}
use native.Mathlib.Omega.{arith}
use Rattle.fields_reader.proofs.record.tail_at.Goals as goal

pub bounds-s-p : goal.bounds-s-p
bounds-s-p c = omega arith

pub overflow_add-p : goal.overflow_add-p
overflow_add-p c = omega arith

pub bounds-s-p-2 : goal.bounds-s-p-2
bounds-s-p-2 c = omega arith

pub of_bytes-field-requires : goal.of_bytes-field-requires
of_bytes-field-requires c = tt

pub overflow_add-descriptors : goal.overflow_add-descriptors
overflow_add-descriptors c = omega arith

pub overflow_add-descriptors-2 : goal.overflow_add-descriptors-2
overflow_add-descriptors-2 c = omega arith

pub overflow_cast-descriptors-2 : goal.overflow_cast-descriptors-2
overflow_cast-descriptors-2 c = omega arith

pub overflow_cast-descriptors-3 : goal.overflow_cast-descriptors-3
overflow_cast-descriptors-3 c =
    let p = c.args.p in
    let n = ap (λ (f : LengthField). f.length) c.of_bytes-field.ensures in
    omega (arith, n, c.type_inv.s (p + 1))

pub low-requires : goal.low-requires
low-requires c = tt

pub returns : goal.returns
unfolding tail_at
returns c =
    let field = c.of_bytes-field.ensures in
    rw (c.low.ensures, field)
