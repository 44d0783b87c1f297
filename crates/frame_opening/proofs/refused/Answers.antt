use mathlib.Core.Path.{refl}
use Rattle.wire.specs.Verdict.{reached}
use Rattle.frame_opening.proofs.refused.Goals as goal

pub returns : goal.returns
unfolding reached
returns c = refl
