use mathlib.Core.Path.{refl}
use native.Mathlib.Omega.{arith}
use lib.Count.{ones-le}
use Rattle.number_count.proofs.ones_of.Goals as goal

pub overflow_cast-result : goal.overflow_cast-result
overflow_cast-result c = omega (arith, ones-le 64 c.args.word c.ranges.word.fits)

pub returns : goal.returns
returns c = (refl, ones-le 64 c.args.word c.ranges.word.fits)
