-- What number 0 says: of a verdict whose refusal has not that number it says that there is none.
-- Assumes nothing.
use mathlib.Core.Path.{◌≡◌, refl, ap}
use Rattle.wire.specs.Verdict.{bad, Fine, Verdict}
use Rattle.wire.proofs.Among.{Never}
use Rattle.flat_refusal.specs.Refusals.{refusal_of}
use Rattle.std.specs.Prelude.{Err, Ok}

-- none where the verdict is fine
pub fine-is-0 : (v : Verdict) → v ≡ Fine → (refusal_of v).number ≡ 0
unfolding refusal_of
fine-is-0 v e = rw e refl

-- and only there
pub only-fine-is-0 : (v : Verdict) → Never 0 v → (refusal_of v).number ≡ 0 → v ≡ Fine
unfolding refusal_of
only-fine-is-0 (Ok _) n e = refl
only-fine-is-0 (Err r) n e = absurd (n r.first r.second (ap (λ k. bad k r.first r.second) e))
