-- Which numbers a walk over a head, and over an authority, can answer at all: 42 to 45, and 46.
-- Assumes nothing.
use Prim.Native.Nat.{ℕ}
use mathlib.Core.Path.{◌≡◌}
use mathlib.Core.Bool.{true}
use mathlib.Core.List.{List}
use Rattle.wire.specs.Verdict.{reached}
use Rattle.wire.specs.declared.verdict.Refusal.{Refusal}
use Rattle.wire.proofs.Among.{listed}
use Rattle.wire.proofs.Verdicts.{reached-refused}
use Rattle.length_field.specs.Lengths.{block_end}
use Rattle.rnt.specs.Reading.{named_end, info_place, authority_verdict, provider_head}
use Rattle.rnt.proofs.Listed.{head_reading, authority_reading, head-listed, authority-listed}
use Rattle.rnt_heads.specs.Heads.{end_in, headed}
use Rattle.rnt_heads.proofs.HeadLaws.{headed-refused}
use Rattle.std.specs.Prelude.{Err}

module _ (xs : List ℕ) (e p : ℕ) (r : Refusal) where
  pub past-head-listed : headed (provider_head xs (end_in xs e) p) (named_end xs (info_place p)) (block_end xs p) ≡ Err r → listed r.number head_reading ≡ true
  past-head-listed h = head-listed xs (end_in xs e) p r (headed-refused _ _ _ r h)

  pub past-authority-listed : reached (authority_verdict xs (end_in xs e) p) (named_end xs p) ≡ Err r → listed r.number authority_reading ≡ true
  past-authority-listed h = authority-listed xs (end_in xs e) p r (reached-refused _ _ _ h)
