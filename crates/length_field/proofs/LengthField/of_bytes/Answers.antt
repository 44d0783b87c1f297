use mathlib.Core.Path.{refl}
use borrow.Author.Rules.{rules}
use Rattle.length_field.proofs.LengthField.of_bytes.Goals as goal

pub returns : goal.returns
returns c = rw c.be16-both.ensures refl
