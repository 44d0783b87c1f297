use Rattle.link.specs.Records.{ones_fields}
use mathlib.Core.Path.{refl}
use borrow.Author.Rules.{rules}
use Rattle.link.proofs.LinkFields.with_reserved_ones.Goals as goal

pub returns : goal.returns
unfolding ones_fields
returns c = refl
