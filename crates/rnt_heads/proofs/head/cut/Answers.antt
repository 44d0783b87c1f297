use mathlib.Core.Path.{refl}
use Rattle.wire.specs.Verdict.{reached}
use Rattle.rnt_heads.proofs.head.cut.Goals as goal

pub returns : goal.returns
unfolding reached
returns c = refl
