use mathlib.Core.Path.{refl}
use Rattle.link.specs.Records.{no_fields}
use Rattle.link.proofs.LinkFields.none.Goals as goal

pub returns : goal.returns
unfolding no_fields
returns c = refl
