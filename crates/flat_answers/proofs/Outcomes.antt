-- What C gets of an edit: the verdict of its outcome and the outcome's total, which is 0 where it refuses (rct_edit/proofs/Calls).
-- Assumes nothing.
use Prim.Native.Nat.{ℕ}
use mathlib.Core.Path.{◌≡◌, refl}
use mathlib.Core.List.{List}
use Rattle.wire.specs.Verdict.{Verdict, reached}
use Rattle.link.specs.declared.LinkInfo.{LinkInfo}
use Rattle.link.specs.declared.Range.{Range}
use Rattle.rct.specs.declared.RctHeader.{RctHeader}
use Rattle.rct_edit.specs.Edit.{Outcome, done, made, appended, replaced}
use Rattle.rct_edit.specs.Answers.{answer}
use Rattle.rct_edit.specs.Calls.{making, appending, replacing}
use Rattle.flat_refusal.specs.Refusals.{refusal_of}
use Rattle.flat_answers.specs.Edits.{edit_answer}
use Rattle.std.specs.Prelude.{Err, Ok}

abbrev pub Told : Outcome → Type 0
Told o = edit_answer (answer o) ≡ record { refusal = refusal_of o.verdict; total = o.total }

done-told : (v : Verdict) (n : ℕ) (new old : List ℕ) → Told (done v n new old)
unfolding edit_answer refusal_of reached done
done-told (Ok _) n new old = refl
done-told (Err r) n new old = refl

pub making-told : (xs : List ℕ) (h : RctHeader) (beside : ℕ) (t : List ℕ) (d : Range) → Told (making xs h beside t d)
unfolding making made
making-told xs h beside t d = done-told _ _ _ _

pub appending-told : (xs t : List ℕ) (l : LinkInfo) → Told (appending xs t l)
unfolding appending appended
appending-told xs t l = done-told _ _ _ _

pub replacing-told : (xs : List ℕ) (k : ℕ) (t : List ℕ) (l : LinkInfo) → Told (replacing xs k t l)
unfolding replacing replaced
replacing-told xs k t l = done-told _ _ _ _
