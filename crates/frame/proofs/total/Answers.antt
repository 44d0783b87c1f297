use mathlib.Core.Path.{ap}
use native.Mathlib.Omega.{arith}
use borrow.Author.Rules.{rules}
use Rattle.length_field.specs.declared.LengthField.{LengthField}
use Rattle.frame.proofs.total.Goals as goal

pub overflow_add-result : goal.overflow_add-result
overflow_add-result c = omega (arith, ap (λ (f : LengthField). f.length) c.of_bytes-field.ensures)

pub returns : goal.returns
returns c = let n = ap (λ (f : LengthField). f.length) c.of_bytes-field.ensures in omega arith
