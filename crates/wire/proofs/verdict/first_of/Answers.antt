use Rattle.std.specs.Prelude.{Ok, Err}
use Rattle.std.specs.Result.{result_and}
use Rattle.wire.specs.Verdict.{Verdict, ◌▷◌}
use mathlib.Core.Path.{◌≡◌, refl}
use Rattle.wire.proofs.verdict.first_of.Goals as goal

-- the library's word for it
first-and : (v w : Verdict) → result_and v w ≡ v ▷ w
unfolding ◌▷◌
first-and (Ok _) w = refl
first-and (Err r) w = refl

pub returns : goal.returns
returns c = rw (c.and.ensures, first-and c.args.a c.args.b)
