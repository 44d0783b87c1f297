-- What the calls answer of an outcome.
-- Assumes nothing.
use Rattle.rct_edit.specs.Edit.{Outcome}
use Rattle.std.specs.Prelude.{ℕ, Result}
use Rattle.wire.specs.Verdict.{reached}
use Rattle.wire.specs.declared.verdict.Refusal.{Refusal}

abbrev pub answer : Outcome → Result ℕ Refusal
answer o = reached o.verdict o.total
