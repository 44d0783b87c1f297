-- A verdict as a refusal, whose number is 0 where there is none.
-- Assumes nothing.
use Rattle.wire.specs.declared.verdict.Refusal.{Refusal}
use Rattle.std.specs.Prelude.{Err, Ok}
use Rattle.wire.specs.Verdict.{Verdict}

abbrev pub no_refusal : Refusal
no_refusal = record { number = 0; first = 0; second = 0 }

unfoldable pub refusal_of : Verdict → Refusal
refusal_of (Ok _) = no_refusal
refusal_of (Err r) = r
